-- `walk::steps::slot_word` meets its contract. Assumes nothing.
use mathlib.Core.Path.{sym, ◌∙◌}
use Rattle.store.proofs.Tree.{slot_word_lem}
use Rattle.walk.proofs.Groups.{slot_none}
use Rattle.walk.proofs.steps.slot_word.Goals as goal

pub returns-then-m-lt2 : goal.returns-then-m-lt2
returns-then-m-lt2 c = sym (slot_none _ _ c.if-m-lt2.true)

pub returns : goal.returns
returns c = c.word_at.ensures ∙ sym (slot_word_lem _ _ c.if-m-lt2.false)
