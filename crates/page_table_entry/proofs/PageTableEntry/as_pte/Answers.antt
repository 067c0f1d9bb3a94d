-- `page_table_entry::PageTableEntry::as_pte` meets its contract. Assumes nothing.
use mathlib.Core.Path.{ap, ◌∙◌}
use native.Mathlib.Omega.{arith}
use Rattle.address.specs.Answer.{said, answered}
use Rattle.page_table_entry.proofs.Built.{nine, name, shifted, is_named}
use Rattle.page_table_entry.proofs.PageTableEntry.as_pte.Goals as goal

pub returns-then-pa-ge-PAST_FRAMES : goal.returns-then-pa-ge-PAST_FRAMES
unfolding said
returns-then-pa-ge-PAST_FRAMES c = is_named _ _ (nine _ (omega arith))

pub returns : goal.returns
unfolding said
returns c = is_named _ _ (ap answered (shifted _ (omega arith)) ∙ name _ (omega arith))
