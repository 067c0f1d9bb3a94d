-- `well_formed::tables::table_ok` meets its contract. Assumes nothing.
use mathlib.Core.Logic.{inl, inr}
use Rattle.std.proofs.lemmas.Bool.{eq-eqb}
use Rattle.well_formed.proofs.Answered.{says_yes, says_equal}
use Rattle.well_formed.proofs.PointerLaws.{table_not, table_is}
use Rattle.well_formed.proofs.MarkLaws.{table_astray, table_pointed, table_low}
use Rattle.well_formed.proofs.tables.table_ok.Goals as goal

pub returns-then-ne : goal.returns-then-ne
returns-then-ne c =
    table_astray _ _ _ _ c.mark_at-m.ensures.0 _ c.word_at.ensures c.if-m-lt2.false (table_not _ _ _ c.pointed_table.ensures c.if-ne.ensures)

pub returns-then-level-eq2 : goal.returns-then-level-eq2
returns-then-level-eq2 c =
    says_yes _ (eq-eqb _ _ c.if-level-eq2.true)
    (table_pointed _ _ _ _ c.mark_at-m.ensures.0 _ _ c.word_at.ensures c.level_of-level.ensures c.if-m-lt2.false (table_is _ _ _ c.pointed_table.ensures c.if-ne.ensures) (inl c.if-level-eq2.true))

pub returns-else-level-eq2 : goal.returns-else-level-eq2
returns-else-level-eq2 c =
    says_equal _ 1
    (λ e. table_pointed _ _ _ _ c.mark_at-m.ensures.0 _ _ c.word_at.ensures c.level_of-level.ensures c.if-m-lt2.false (table_is _ _ _ c.pointed_table.ensures c.if-ne.ensures) (inr e))
    (table_low _ _ _ _ c.mark_at-m.ensures.0 _ c.level_of-level.ensures c.if-m-lt2.false c.if-level-eq2.false)
