-- `well_formed::pointers::pointers_few` meets its contract. Assumes nothing.
use Rattle.std.proofs.Common.{rules, tests, ◌≡◌, ◌⊎◌, inl, ℕ, ◌+◌, arith}
use Rattle.std.proofs.lemmas.Iterator.{cases_from_all, YieldsList-from_range}
use Rattle.store.specs.Store.{word}
use Rattle.store.specs.WellFormed.{Points}
use Rattle.well_formed.proofs.Answered.{says_yes, says_range}
use Rattle.well_formed.proofs.Slices.{part_to}
use Rattle.well_formed.proofs.pointers.pointers_few.Goals as goal

pub returns-then-zeros : goal.returns-then-zeros
returns-then-zeros c =
    let a = c.args in
    says_yes _ c.if-zeros.true (λ k h l. inl (part_to a.words.now a.a (a.a + 32) (omega arith) c.requires (λ x. x ≡ 0) c.if-zeros.ensures k h l))

pub returns-else-zeros : goal.returns-else-zeros
returns-else-zeros c =
    let a = c.args in
    let P = λ (w : ℕ). (word a.words.now w ≡ 0) ⊎ Points a.words.now a.tmarks.now w in
    says_range P a.a 32 _ (cases_from_all _ _ _ P (λ w. P w → ⊥) c.all.ensures.ran (YieldsList-from_range a.a (a.a + 32) 32 (search rules) (omega arith)) (λ x q k. search (rules, tests)) (λ x q k. search (rules, tests)))
