-- Sizes in bytes of what a root maps from page 0 on, and what a call that names two of them is refused with first.
use Rattle.std.specs.Prelude.{◌⊎◌, ℕ, ◌+◌, ◌/◌, ◌^◌, ◌≤◌, ◌<◌}
use Rattle.store.specs.Store.{Store}
use Rattle.well_formed.specs.Root.{RootReason, RootReady}

-- how many pages size bytes take, rounded up
abbrev pub pages_to : ℕ → ℕ
pages_to size = (size + 4095) / 4096

-- a size exceeds 2^38
abbrev pub TooLarge : ℕ → ℕ → Type 0
TooLarge old new = (2 ^ 38 < old) ⊎ (2 ^ 38 < new)

-- 1, 2, 3; 6: a size is too large
pub data SizeReason (s : Store) (root old new : ℕ) : ℕ → Type 0 where
  at_root : {k : ℕ} → RootReason s root k → SizeReason s root old new k
  too_large : TooLarge old new → SizeReason s root old new 6

-- what holds where none of them applies
pub record SizeReady (s : Store) (root old new : ℕ) : Type 0 where
  pub at_root : RootReady s root
  pub old_small : old ≤ 2 ^ 38
  pub new_small : new ≤ 2 ^ 38
