-- What shows that a test says yes exactly for a claim. Assumes nothing.
use mathlib.Core.Path.{◌≡◌, refl, subst, ◌∙◌}
use mathlib.Core.Bool.{Bool, true, false}
use Prim.Native.Nat.{ℕ, ◌+◌, ◌-◌, ◌*◌, ◌/◌, ◌<◌, zero-le}
use native.Mathlib.Omega.{arith}
use lib.ListN.{length}
use Rattle.std.proofs.Common.{eqb, MatchBool, HoldsAt}
use Rattle.std.specs.List.{AllWithin, range_with_len}
use Rattle.std.proofs.lemmas.List.FromFn.{length-range_with_len, get_or-range_with_len}
use Rattle.std.proofs.lemmas.Bool.{both_ways, eqb-true, eqb-false}
use Rattle.store.specs.Says.{Says}
use Rattle.store.proofs.Tests.{says_map}
use Rattle.well_formed.specs.Scan.{Each}

pub says : (b : Bool) {P : Type 0} → (b ≡ true → P) → (b ≡ false → P → ⊥) → Says b P
says true t f = t refl
says false t f = f refl

-- yes, where P holds
pub says_yes : (b : Bool) {P : Type 0} → b ≡ true → P → Says b P
says_yes b e p = says b (λ _. p) (λ f. absurd (both_ways b f e))

-- an equality that holds exactly where P does
pub says_equal : (x y : ℕ) {P : Type 0} → (x ≡ y → P) → (P → x ≡ y) → Says (eqb x y) P
says_equal x y to back = says (eqb x y) (λ e. to (eqb-true x y e)) (λ e p. eqb-false x y e (back p))

-- a test of the numbers from a on, n of them
pub says_range : (P : ℕ → Type 0) (a n : ℕ) (r : Bool) → MatchBool r (AllWithin P (range_with_len a n) 0 (length (range_with_len a n))) ((k : ℕ) × (k < length (range_with_len a n)) × HoldsAt (λ x. P x → ⊥) (range_with_len a n) k) → Says r (Each P a (a + n))
says_range P a n true all =
    λ k h l.
    let e : a + (k - a) ≡ k = omega arith in
    subst P (get_or-range_with_len a n (k - a) 0 (omega arith) ∙ e) (all (k - a) 0 (omega arith) (omega (arith, length-range_with_len a n)))
says_range P a n false bad =
    λ all.
    let l : bad.0 < n = omega (arith, bad.1, length-range_with_len a n) in
    subst (λ (k : ℕ). P k → ⊥) (get_or-range_with_len a n bad.0 0 l) (bad.2 0) (all (a + bad.0) (omega arith) (omega arith))

-- a test of the n parts of 32 numbers from a on
pub says_parts : (P : ℕ → Type 0) (a n : ℕ) (r : Bool) → Says r (Each (λ i. Each P (a + 32 * i) (a + 32 * i + 32)) 0 (0 + n)) → Says r (Each P a (a + 32 * n))
says_parts P a n r =
    says_map r
    (λ all k h l. all ((k - a) / 32) zero-le (omega arith) k (omega arith) (omega arith))
    (λ all i _ l k p q. all k (omega arith) (omega arith))
