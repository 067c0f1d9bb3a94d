-- `uvm_init`: why it is refused, and the store afterwards.
use Rattle.std.specs.Prelude.{◌≡◌, List, ◌++◌, ℕ, ◌-◌, ◌≤◌, ◌<◌, length, replicate, Result}
use Rattle.refusal.specs.declared.Refusal.{Refusal}
use Rattle.store.specs.Store.{Store}
use Rattle.store.specs.Outcome.{Outcome}
use Rattle.well_formed.specs.Root.{RootReason, RootReady}
use Rattle.fresh.specs.Fresh.{FreshReason, FreshReady, fresh_page}

-- 1, 2, 3; 5: the source has 4,096 bytes or more; 14, 16 or 17 for page 0
pub data InitReason (s : Store) (root : ℕ) (src : List ℕ) : ℕ → Type 0 where
  at_root : {k : ℕ} → RootReason s root k → InitReason s root src k
  too_long : 4096 ≤ length src → InitReason s root src 5
  page : {k : ℕ} → FreshReason s root 0 1 k → InitReason s root src k

-- what holds where none of them applies
pub record InitReady (s : Store) (root : ℕ) (src : List ℕ) : Type 0 where
  pub at_root : RootReady s root
  pub short : length src < 4096
  pub page : FreshReady s root 0 1

-- the source, then zeros
abbrev pub padded : List ℕ → List ℕ
padded src = src ++ replicate (4096 - length src) 0

-- page 0 has a frame with the flags 31 (V, R, W, X and U) that holds this; the answer names no value, and it is 0
abbrev pub InitDone : Store → ℕ → List ℕ → ℕ → Store → Type 0
InitDone s root src v s' = (v ≡ 0) × (s' ≡ fresh_page s root 0 31 (padded src))

abbrev pub Init : Store → ℕ → List ℕ → Result ℕ Refusal → Store → Type 0
Init s root src r s' = Outcome (InitReason s root src) (InitDone s root src) s r s'
