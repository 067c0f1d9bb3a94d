-- Two outcomes of one call are the same, whatever the call; and what a judge of several parts answers. Assumes nothing.
use mathlib.Core.Path.{◌≡◌, refl, sym, ap, ◌∙◌}
use mathlib.Core.Logic.{◌⊎◌, inl, inr, ⊎_elim, by_cases}
use Prim.Native.Nat.{ℕ, ◌≤◌, ◌<◌}
use native.Mathlib.Decide.{dec_lt}
use native.Mathlib.Omega.{arith}
use Rattle.std.specs.Prelude.{Result, Ok, Err}
use Rattle.refusal.specs.declared.Refusal.{Refusal}
use Rattle.refusal.specs.Number.{number_of}
use Rattle.refusal.proofs.Numbers.{one_number}
use Rattle.store.specs.Outcome.{Smallest, NoReason, Outcome, Judges}

-- the one reason P, with number n
abbrev pub Just : ℕ → Type 0 → ℕ → Type 0
Just n P k = (k ≡ n) × P

pub one_smallest : (R : ℕ → Type 0) (m n : ℕ) → Smallest R m → Smallest R n → m ≡ n
one_smallest R m n p q =
    by_cases (dec_lt m n) (λ l. absurd (q.least m l p.applies))
    (λ g. by_cases (dec_lt n m) (λ l. absurd (p.least n l q.applies)) (λ h. omega arith))

-- where D holds of one value and one store, or buffer, at most
module _ {S : Type 0} (R : ℕ → Type 0) (D : ℕ → S → Type 0) (one : (v v' : ℕ) (t t' : S) → D v t → D v' t' → (v ≡ v') × (t ≡ t')) (s : S) where
  pub one_outcome : (a a' : Result ℕ Refusal) (t t' : S) → Outcome R D s a t → Outcome R D s a' t' → (a ≡ a') × (t ≡ t')
  one_outcome (Err m) (Err n) t t' p q = (ap Err (one_number m n (one_smallest R (number_of m) (number_of n) p.0 q.0)), p.1 ∙ sym q.1)
  one_outcome (Err m) (Ok v) t t' p q = absurd (q.0 (number_of m) p.0.applies)
  one_outcome (Ok v) (Err n) t t' p q = absurd (p.0 (number_of n) q.0.applies)
  one_outcome (Ok v) (Ok v') t t' p q = let e = one v v' t t' p.1 q.1 in (ap Ok e.0, e.1)

-- ---- reasons in two parts, those of A and then those of B: R k is one of the two

module _ {A B R : ℕ → Type 0} (split : (k : ℕ) → R k → A k ⊎ B k) where
  -- one of A is found, and all of B have larger numbers
  pub first_found : ((k : ℕ) → A k → R k) → ((j k : ℕ) → A j → B k → j < k) → (n : ℕ) → Smallest A n → Smallest R n
  first_found up above n m =
      record { applies = up n m.applies; least = λ k l q. ⊎_elim (m.least k l) (λ b. omega (arith, above n k m.applies b)) (split k q) }

  -- none of A applies, and one of B is found, or B is judged
  pub then_found : ((k : ℕ) → B k → R k) → NoReason A → (n : ℕ) → Smallest B n → Smallest R n
  then_found up none n m = record { applies = up n m.applies; least = λ k l x. ⊎_elim (none k) (m.least k l) (split k x) }

  pub then_judged : {F G : Type 0} → ((k : ℕ) → B k → R k) → NoReason A → (G → F) → (r : Result Unit Refusal) → Judges B G r → Judges R F r
  then_judged up none ready (Ok u) g = ready g
  then_judged up none ready (Err k) m = then_found up none (number_of k) m

-- the one reason, number n for P, is found
pub just_one : (n : ℕ) (P : Type 0) → P → Smallest (Just n P) n
just_one n P p = record { applies = (refl, p); least = λ k l q. omega (arith, q.0) }

-- ---- reasons in a row: P with number n, and then those of B, with larger numbers

abbrev pub JustThen : ℕ → Type 0 → (ℕ → Type 0) → ℕ → Type 0
JustThen n P B k = Just n P k ⊎ B k

module _ (n : ℕ) (P : Type 0) {B : ℕ → Type 0} where
  pub just_from : ((k : ℕ) → B k → n < k) → (k : ℕ) → JustThen n P B k → n ≤ k
  just_from above k = ⊎_elim (λ h. omega (arith, h.0)) (λ b. omega (arith, above k b))

  -- P is found
  pub just_found : ((k : ℕ) → B k → n < k) → P → Smallest (JustThen n P B) n
  just_found above p = first_found (λ k x. x) (λ k. inl) (λ j k a b. omega (arith, a.0, above k b)) n (just_one n P p)

  -- it is not, and one of the others is found, or they are judged
  pub then_other : (P → ⊥) → (m : ℕ) → Smallest B m → Smallest (JustThen n P B) m
  then_other h = then_found (λ k x. x) (λ k. inr) (λ k x. h x.1)

pub just_passed : (n : ℕ) (P : Type 0) (B : ℕ → Type 0) (F : Type 0) → (P → ⊥) → (r : Result Unit Refusal) → Judges B F r → Judges (JustThen n P B) F r
just_passed n P B F h = then_judged (λ k x. x) (λ k. inr) (λ k x. h x.1) (λ f. f)
