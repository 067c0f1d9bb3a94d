-- `uvm_dealloc`: why it is refused, what it answers, and the store afterwards.
use Rattle.std.specs.Prelude.{◌≡◌, true, ℕ, ◌-◌, min, Result}
use Rattle.refusal.specs.declared.Refusal.{Refusal}
use Rattle.store.specs.Store.{Store}
use Rattle.store.specs.Outcome.{Outcome}
use Rattle.unmap.specs.Leave.{LeaveReason, LeaveReady, leave_pages}
use Rattle.shrink.specs.Sizes.{pages_to, SizeReason, SizeReady}

-- the pages that old bytes take and new bytes do not; there are none where new is no less
abbrev pub lost : ℕ → ℕ → ℕ
lost old new = pages_to old - pages_to new

-- 1, 2, 3, 6; 11 or 13 for one of these pages, which leave with freeing, so that 10 never applies
pub data ShrinkReason (s : Store) (root old new : ℕ) : ℕ → Type 0 where
  sizes : {k : ℕ} → SizeReason s root old new k → ShrinkReason s root old new k
  pages : {k : ℕ} → LeaveReason s root (pages_to new) (lost old new) true k → ShrinkReason s root old new k

-- what holds where none of them applies
pub record ShrinkReady (s : Store) (root old new : ℕ) : Type 0 where
  pub sizes : SizeReady s root old new
  pub pages : LeaveReady s root (pages_to new) (lost old new) true

-- these pages leave with freeing; the answer is old where new >= old, else new: the lesser
abbrev pub ShrinkDone : Store → ℕ → ℕ → ℕ → ℕ → Store → Type 0
ShrinkDone s root old new v s' = (v ≡ min old new) × (s' ≡ leave_pages s root (pages_to new) (lost old new) true)

abbrev pub Shrink : Store → ℕ → ℕ → ℕ → Result ℕ Refusal → Store → Type 0
Shrink s root old new r s' = Outcome (ShrinkReason s root old new) (ShrinkDone s root old new) s r s'
