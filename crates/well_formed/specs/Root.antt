-- What every call that names a root is refused with first: 1, 2 or 3.
use Rattle.std.specs.Prelude.{◌≡◌, ℕ, ◌+◌, ◌^◌, ◌≤◌}
use Rattle.store.specs.Store.{Store, Sized, mark}
use Rattle.store.specs.WellFormed.{WellFormed}

pub data RootReason (s : Store) (root : ℕ) : ℕ → Type 0 where
  sizes : (Sized s → ⊥) → RootReason s root 1
  unformed : (WellFormed s → ⊥) → RootReason s root 2
  no_root : (mark s.tmarks root ≡ 1 → ⊥) → RootReason s root 3

-- what holds where none of them applies
pub record RootReady (s : Store) (root : ℕ) : Type 0 where
  pub sized : Sized s
  pub formed : WellFormed s
  pub is_root : mark s.tmarks root ≡ 1

-- a root, and n pages from p on that it may map: those below 2 ^ 38
pub record Asked (s : Store) (root p n : ℕ) : Type 0 where
  pub at_root : RootReady s root
  pub pages : p + n ≤ 2 ^ 26
