-- `well_formed::words::table_words_ok` meets its contract: each way out is a table of one level. Assumes nothing.
use mathlib.Core.Path.{sym, ◌∙◌}
use Rattle.std.proofs.Common.{rules}
use Rattle.well_formed.proofs.WordLaws.{leaf_table, inner_table, root_table, free_table, lost_table}
use Rattle.well_formed.proofs.words.table_words_ok.Goals as goal

pub returns-in-0 : goal.returns-in-0
returns-in-0 c = leaf_table _ _ _ _ c.level_of.ensures c.requires c.in-0.is _ c.leaves.ensures

pub returns-in-1 : goal.returns-in-1
returns-in-1 c = rw c.then_some.ensures (inner_table _ _ _ _ c.level_of.ensures c.in-1.is _ c.pointers.ensures)

pub returns-in-2 : goal.returns-in-2
returns-in-2 c = rw c.then_some-in-2.ensures (root_table _ _ _ _ c.level_of.ensures c.in-2.is _ c.root_ok.ensures)

pub returns-in_default : goal.returns-in_default
returns-in_default c =
    rw c.then_some-in_default.ensures (free_table _ _ _ _ c.level_of.ensures c.requires (sym c.mark_at.ensures.0 ∙ c.if-mark_at-eq0.true) _ c.zeros.ensures)

pub returns-in_default-2 : goal.returns-in_default-2
returns-in_default-2 c =
    lost_table _ _ _ _ c.level_of.ensures (search rules) (search rules) (search rules) (λ z. c.if-mark_at-eq0.false (c.mark_at.ensures.0 ∙ z))
