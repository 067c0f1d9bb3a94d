-- The reasons of a root and two sizes in order, and what each way out of their judge says. Assumes nothing.
use mathlib.Core.Path.{refl}
use mathlib.Core.Logic.{◌⊎◌, inl, inr, ⊎_elim}
use Prim.Native.Nat.{ℕ, ◌≤◌}
use native.Mathlib.Omega.{arith}
use Rattle.store.specs.Store.{Store}
use Rattle.store.specs.Outcome.{NoReason, Smallest}
use Rattle.store.proofs.Outcomes.{Just, first_found, just_one, then_found}
use Rattle.well_formed.specs.Root.{RootReason, RootReady}
use Rattle.well_formed.proofs.RootReasons.{root_upto, root_clear}
use Rattle.shrink.specs.Sizes.{TooLarge, SizeReason, at_root, too_large, SizeReady}

-- their numbers
pub size_upto : {s : Store} {root old new k : ℕ} → SizeReason s root old new k → k ≤ 6
size_upto (at_root h) = omega (arith, root_upto h)
size_upto (too_large h) = omega arith

module _ (s : Store) (root old new : ℕ) where
  abbrev R : ℕ → Type 0
  R = SizeReason s root old new

  abbrev F : Type 0
  F = SizeReady s root old new

  split : (k : ℕ) → R k → RootReason s root k ⊎ Just 6 (TooLarge old new) k
  split k (at_root h) = inl h
  split k (too_large h) = inr (refl, h)

  -- where the sizes can be used no reason applies
  pub size_clear : F → NoReason R
  size_clear f k (at_root h) = root_clear s root f.at_root k h
  size_clear f k (too_large h) = ⊎_elim (λ q. omega (arith, f.old_small)) (λ q. omega (arith, f.new_small)) h

  pub by_root : (n : ℕ) → Smallest (RootReason s root) n → Smallest R n
  by_root = first_found split (λ k. at_root) (λ j k a b. omega (arith, root_upto a, b.0))

  module _ (r : RootReady s root) where
    six : (k : ℕ) → Just 6 (TooLarge old new) k → R k
    six k (e, h) = rw e (too_large h)

    pub no_6 : TooLarge old new → Smallest R 6
    no_6 h = then_found split six (root_clear s root r) 6 (just_one 6 (TooLarge old new) h)
