-- The reasons of a named root in order, and what each way out of its judge says. Assumes nothing.
use mathlib.Core.Path.{◌≡◌}
use mathlib.Core.Logic.{◌⊎◌, ⊎_elim}
use Prim.Native.Nat.{ℕ, suc, ◌≤◌, ◌<◌}
use native.Mathlib.Nat.{le_refl}
use native.Mathlib.Omega.{arith}
use Rattle.std.specs.Prelude.{Err}
use Rattle.refusal.specs.declared.Refusal.{Refusal}
use Rattle.refusal.specs.Number.{number_of}
use Rattle.store.specs.Store.{Store, Sized, mark}
use Rattle.store.specs.WellFormed.{WellFormed}
use Rattle.store.specs.Outcome.{Smallest, NoReason}
use Rattle.well_formed.specs.Check.{Judged}
use Rattle.well_formed.specs.Root.{RootReason, sizes, unformed, no_root, RootReady}
use Rattle.well_formed.proofs.Verdict.{judged_no}

-- their numbers
pub root_upto : {s : Store} {root k : ℕ} → RootReason s root k → k ≤ 3
root_upto (sizes h) = omega arith
root_upto (unformed h) = omega arith
root_upto (no_root h) = omega arith

module _ (s : Store) (root : ℕ) where
  abbrev R : ℕ → Type 0
  R = RootReason s root

  abbrev F : Type 0
  F = RootReady s root

  least : (n : ℕ) → (1 < n → Sized s) → (2 < n → WellFormed s) → (3 < n → mark s.tmarks root ≡ 1) → (k : ℕ) → k < n → R k → ⊥
  least n z w r k l (sizes h) = h (z l)
  least n z w r k l (unformed h) = h (w l)
  least n z w r k l (no_root h) = h (r l)

  -- where the root can be used no reason applies
  pub root_clear : F → NoReason R
  root_clear f k = least (suc k) (λ l. f.sized) (λ l. f.formed) (λ l. f.is_root) k (le_refl (suc k))

  -- they come before the others of a call, whose numbers are larger
  pub root_first : {A : ℕ → Type 0} → ((k : ℕ) → R k → A k) → ((k : ℕ) → A k → R k ⊎ (3 < k)) → (n : ℕ) → Smallest R n → Smallest A n
  root_first up split n m = record {
    applies = up n m.applies;
    least = λ k l a. ⊎_elim (m.least k l) (λ b. omega (arith, root_upto m.applies)) (split k a);
  }

  pub not_judged : (r : Refusal) → Judged s (Err r) → Smallest R (number_of r)
  not_judged = judged_no s R (λ h. record { applies = sizes h; least = least 1 (λ l. absurd (omega arith)) (λ l. absurd (omega arith)) (λ l. absurd (omega arith)) })
      (λ z h. record { applies = unformed h; least = least 2 (λ l. z) (λ l. absurd (omega arith)) (λ l. absurd (omega arith)) })

  module _ (g : Sized s × WellFormed s) where
    pub no_3 : (mark s.tmarks root ≡ 1 → ⊥) → Smallest R 3
    no_3 h = record { applies = no_root h; least = least 3 (λ l. g.0) (λ l. g.1) (λ l. absurd (omega arith)) }

    pub named : mark s.tmarks root ≡ 1 → F
    named r = record { sized = g.0; formed = g.1; is_root = r }
