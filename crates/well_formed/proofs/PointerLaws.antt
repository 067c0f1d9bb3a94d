-- What the test of a pointer says. Assumes nothing.
use mathlib.Core.Path.{◌≡◌, sym, subst, ap, ◌∙◌}
use mathlib.Core.Logic.{◌⊎◌, inr, ⊎_elim}
use mathlib.Core.List.{List}
use mathlib.Core.Bool.{Bool, true, false, not}
use Prim.Native.Nat.{ℕ, ◌+◌}
use native.Mathlib.Omega.{arith}
use Rattle.std.proofs.Common.{Option, Some, None, MatchOption, eqb, nat_eq}
use Rattle.std.specs.Option.{option_eq}
use Rattle.std.proofs.lemmas.Bool.{both_ways, not-true, not-false, false≢true, eqb-true, eqb-false}
use Rattle.store.specs.Says.{Says}
use Rattle.store.specs.Store.{word, mark, pointer_to}
use Rattle.store.specs.WellFormed.{Points}
use Rattle.store.proofs.Scans.{in_range}
use Rattle.well_formed.specs.Scan.{PointsTo}
use Rattle.well_formed.proofs.Answered.{says}

-- tables that one word points to are the same
one_table : (x t u : ℕ) → x ≡ pointer_to t → x ≡ pointer_to u → t ≡ u
one_table x t u e f = omega arith

-- a word that is not 0 points to the table whose mark is looked at, or to none
pub points_says : (ws ms : List ℕ) (w : ℕ) → (word ws w ≡ 0 → ⊥) → (o : Option ℕ) → PointsTo (word ws w) o → (r : Bool) → MatchOption o (r ≡ false) (λ t. r ≡ eqb (mark ms t) (w + 2)) → Says r ((word ws w ≡ 0) ⊎ Points ws ms w)
points_says ws ms w n None to r e = says r (λ y. absurd (both_ways r e y)) (λ _. ⊎_elim n (λ p. to p.to p.word))
points_says ws ms w n (Some t) to r e =
    says r
    (λ y. let m : mark ms t ≡ w + 2 = eqb-true _ _ (sym e ∙ y) in inr (record { to = t; there = in_range ms t (λ z. omega arith); word = to; mark = m }))
    (λ y. ⊎_elim n (λ p. eqb-false _ _ (sym e ∙ y) (ap (mark ms) (one_table (word ws w) t p.to to p.word) ∙ p.mark)))

-- whether x points to table t, by the table that it points to
pub table_not : (x t : ℕ) (o : Option ℕ) → PointsTo x o → true ≡ not (option_eq nat_eq o (Some t)) → x ≡ pointer_to t → ⊥
table_not x t None to e p = to t p
table_not x t (Some u) to e p = eqb-false u t (not-true _ (sym e)) (one_table x u t to p)

pub table_is : (x t : ℕ) (o : Option ℕ) → PointsTo x o → false ≡ not (option_eq nat_eq o (Some t)) → x ≡ pointer_to t
table_is x t None to e = absurd (false≢true e)
table_is x t (Some u) to e = subst (λ (k : ℕ). x ≡ pointer_to k) (eqb-true u t (not-false _ (sym e))) to
