-- The reasons of `free` in order, and what each way out of its judge says. Assumes nothing.
use mathlib.Core.Path.{◌≡◌, refl}
use mathlib.Core.Logic.{◌⊎◌, inl, inr}
use Prim.Native.Nat.{ℕ, ◌^◌, ◌≤◌, ◌<◌}
use native.Mathlib.Omega.{arith}
use lib.Bits.{bit_and}
use Rattle.store.specs.Store.{Store}
use Rattle.store.specs.Outcome.{NoReason, Smallest}
use Rattle.store.proofs.Outcomes.{Just, first_found, just_one, then_found}
use Rattle.well_formed.specs.Root.{RootReason, RootReady}
use Rattle.well_formed.proofs.RootReasons.{root_upto, root_clear}
use Rattle.walk.specs.Mapped.{Mapped}
use Rattle.walk.specs.Ranges.{PagesAlike}
use Rattle.walk.proofs.Counts.{one_has, none_has}
use Rattle.walk.proofs.Pages.{counted_mapped, mapped_counted}
use Rattle.walk.specs.Missing.{entry_in}
use Rattle.release.specs.Free.{FreeReason, at_root, mapped, FreeReady}

module _ (s : Store) (root : ℕ) where
  abbrev R : ℕ → Type 0
  R = FreeReason s root

  abbrev F : Type 0
  F = FreeReady s root

  -- a page is mapped
  abbrev Some : Type 0
  Some = (p : ℕ) × (p < 2 ^ 26) × Mapped s root p

  split : (k : ℕ) → R k → RootReason s root k ⊎ Just 18 Some k
  split k (at_root h) = inl h
  split k (mapped h) = inr (refl, h)

  eighteen : (k : ℕ) → Just 18 Some k → R k
  eighteen k (e, h) = rw e (mapped h)

  -- where the tree can be freed no reason applies
  pub clear : F → NoReason R
  clear f k (at_root h) = root_clear s root f.at_root k h
  clear f k (mapped h) = f.unmapped h

  pub by_root : (n : ℕ) → Smallest (RootReason s root) n → Smallest R n
  by_root = first_found split (λ k. at_root) (λ j k a b. omega (arith, root_upto a, b.0))

  -- a root with a mapped page
  pub still_mapped : RootReady s root → Some → Smallest R 18
  still_mapped r m = then_found split eighteen (root_clear s root r) 18 (just_one 18 Some m)

  -- n pages of the root are mapped
  module _ (r : RootReady s root) (n : ℕ) (c : PagesAlike s.words root 0 (2 ^ 26) 1 1 n) where
    some : (k : ℕ) × (0 ≤ k) × (k < 2 ^ 26) × (bit_and (entry_in s.words root 2 k) 1 ≡ 1) → Some
    some (k, l, h, b) = (k, h, counted_mapped s root k b)

    pub no_18 : (n ≡ 0 → ⊥) → Smallest R 18
    no_18 h = still_mapped r (some (one_has (entry_in s.words root 2) 1 1 0 (2 ^ 26) n (omega arith) c (omega arith)))

    none : n ≡ 0 → Some → ⊥
    none e (p, h, m) = none_has (entry_in s.words root 2) 1 1 0 (2 ^ 26) n (omega arith) c e p (omega arith) h (mapped_counted s root p m)

    pub all_clear : n ≡ 0 → F
    all_clear e = record { at_root = r; unmapped = none e }
