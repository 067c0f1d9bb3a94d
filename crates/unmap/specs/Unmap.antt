-- `uvm_unmap`: why it is refused, and the store afterwards.
use Rattle.std.specs.Prelude.{◌≡◌, Bool, ℕ, ◌+◌, ◌/◌, ◌%◌, ◌^◌, ◌≤◌, ◌<◌, Result}
use Rattle.refusal.specs.declared.Refusal.{Refusal}
use Rattle.store.specs.Store.{Store}
use Rattle.store.specs.Outcome.{Outcome}
use Rattle.well_formed.specs.Root.{RootReason, RootReady}
use Rattle.unmap.specs.Leave.{LeaveReason, LeaveReady, leave_pages}

-- one of n pages from page p on lies at or above 2^38
abbrev pub TooHigh : ℕ → ℕ → Type 0
TooHigh p n = (i : ℕ) × (i < n) × (2 ^ 26 ≤ p + i)

-- n pages from that of va on
pub data UnmapReason (s : Store) (root va n : ℕ) (freeing : Bool) : ℕ → Type 0 where
  at_root : {k : ℕ} → RootReason s root k → UnmapReason s root va n freeing k
  too_high : TooHigh (va / 4096) n → UnmapReason s root va n freeing 6
  unaligned : (va % 4096 ≡ 0 → ⊥) → UnmapReason s root va n freeing 7
  pages : {k : ℕ} → LeaveReason s root (va / 4096) n freeing k → UnmapReason s root va n freeing k

-- what holds where none of them applies
pub record UnmapReady (s : Store) (root va n : ℕ) (freeing : Bool) : Type 0 where
  pub at_root : RootReady s root
  pub below : TooHigh (va / 4096) n → ⊥
  pub aligned : va % 4096 ≡ 0
  pub pages : LeaveReady s root (va / 4096) n freeing

-- the pages have left; the answer names no value, and it is 0
abbrev pub UnmapDone : Store → ℕ → ℕ → ℕ → Bool → ℕ → Store → Type 0
UnmapDone s root va n freeing v s' = (v ≡ 0) × (s' ≡ leave_pages s root (va / 4096) n freeing)

abbrev pub Unmap : Store → ℕ → ℕ → ℕ → Bool → Result ℕ Refusal → Store → Type 0
Unmap s root va n freeing r s' = Outcome (UnmapReason s root va n freeing) (UnmapDone s root va n freeing) s r s'
