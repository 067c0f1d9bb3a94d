-- `uvm_alloc`: why it is refused, what it answers, and the store afterwards.
use Rattle.std.specs.Prelude.{◌≡◌, List, ℕ, ◌-◌, max, replicate, Result}
use Rattle.refusal.specs.declared.Refusal.{Refusal}
use Rattle.store.specs.Store.{Store}
use Rattle.store.specs.Outcome.{Outcome}
use Rattle.shrink.specs.Sizes.{pages_to, SizeReason, SizeReady}
use Rattle.fresh.specs.Fresh.{FreshReason, FreshReady, fresh_pages}

-- the pages that new bytes take and old bytes do not; there are none where new is less
abbrev pub gained : ℕ → ℕ → ℕ
gained old new = pages_to new - pages_to old

-- 1, 2, 3, 6; 14, 16 or 17 for these pages
pub data GrowReason (s : Store) (root old new : ℕ) : ℕ → Type 0 where
  sizes : {k : ℕ} → SizeReason s root old new k → GrowReason s root old new k
  pages : {k : ℕ} → FreshReason s root (pages_to old) (gained old new) k → GrowReason s root old new k

-- what holds where none of them applies
pub record GrowReady (s : Store) (root old new : ℕ) : Type 0 where
  pub sizes : SizeReady s root old new
  pub pages : FreshReady s root (pages_to old) (gained old new)

-- a frame of zeros
abbrev pub zeroed : List ℕ
zeroed = replicate 4096 0

-- these pages get frames of zeros with the flags 31 (V, R, W, X and U); the answer is old where new < old, else new: the greater
abbrev pub GrowDone : Store → ℕ → ℕ → ℕ → ℕ → Store → Type 0
GrowDone s root old new v s' =
    (v ≡ max old new) × (s' ≡ fresh_pages s root (pages_to old) (gained old new) (λ _. 31) (λ _. zeroed))

abbrev pub Grow : Store → ℕ → ℕ → ℕ → Result ℕ Refusal → Store → Type 0
Grow s root old new r s' = Outcome (GrowReason s root old new) (GrowDone s root old new) s r s'
