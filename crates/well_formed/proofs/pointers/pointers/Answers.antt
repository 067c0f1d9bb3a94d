-- `well_formed::pointers::pointers` meets its contract. Assumes nothing.
use Rattle.std.proofs.Common.{rules, tests, ℕ, ◌+◌, ◌*◌, arith}
use Rattle.std.proofs.lemmas.Iterator.{cases_from_all, YieldsList-from_range}
use Rattle.well_formed.specs.Scan.{Pointers}
use Rattle.well_formed.proofs.Answered.{says_range, says_parts}
use Rattle.well_formed.proofs.pointers.pointers.Goals as goal

pub returns : goal.returns
returns c =
    let a = c.args in
    let P = λ (i : ℕ). Pointers a.words.now a.tmarks.now (a.a + 32 * i) (a.a + 32 * i + 32) in
    says_parts _ a.a a.n _ (says_range P 0 a.n _ (cases_from_all _ _ _ P (λ i. P i → ⊥) c.all.ensures.ran (YieldsList-from_range 0 a.n a.n (search rules) (omega arith)) (λ x q k. search (rules, tests)) (λ x q k. search (rules, tests))))
