-- `translate::translate::pgt_translate` meets its contract. Assumes nothing.
use mathlib.Core.Path.{refl}
use Rattle.translate.proofs.TranslateLaws.{no_6, no_11, no_12, done}
use Rattle.translate.proofs.translate.pgt_translate.Goals as goal

pub returns-then-va-ge-MAXVA : goal.returns-then-va-ge-MAXVA
returns-then-va-ge-MAXVA c = (no_6 _ _ _ c.in_ok-judge_root.ensures c.if-va-ge-MAXVA.true, refl)

pub returns-then-not-is_valid : goal.returns-then-not-is_valid
returns-then-not-is_valid c =
    (no_11 _ _ _ c.in_ok-judge_root.ensures c.if-va-ge-MAXVA.false _ _ c.slot_of-m.ensures c.slot_word.ensures c.if-not-is_valid.ensures, refl)

pub returns-then-not-is_user : goal.returns-then-not-is_user
returns-then-not-is_user c =
    (no_12 _ _ _ c.in_ok-judge_root.ensures c.if-va-ge-MAXVA.false _ _ c.slot_of-m.ensures c.slot_word.ensures c.if-not-is_valid.ensures c.if-not-is_user.ensures, refl)

pub returns : goal.returns
returns c =
    done _ _ _ c.in_ok-judge_root.ensures c.if-va-ge-MAXVA.false _ _ c.slot_of-m.ensures c.slot_word.ensures c.if-not-is_valid.ensures c.if-not-is_user.ensures _ c.as_pagetable.ensures
