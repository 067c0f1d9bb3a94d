-- The pages that a copy needs, and why they may not be used.
use Rattle.std.specs.Prelude.{◌≡◌, ◌⊎◌, ℕ, ◌+◌, ◌/◌, ◌^◌, ◌≤◌, ◌<◌}
use Rattle.address.specs.Field.{bit}
use Rattle.page_table_entry.specs.Layout.{bit_u}
use Rattle.store.specs.Store.{Store}
use Rattle.store.specs.Walk.{resolve}
use Rattle.well_formed.specs.Root.{RootReason, RootReady}
use Rattle.walk.specs.Mapped.{Mapped}
use Rattle.unmap.specs.Leave.{PoolFrame}

-- the page of address a: 6, it lies at or above 2^38; 11, it is not mapped; 12, it lacks U; 15, it has no pool frame
pub data PageReason (s : Store) (r a : ℕ) : ℕ → Type 0 where
  too_high : 2 ^ 38 ≤ a → PageReason s r a 6
  unmapped : (Mapped s r (a / 4096) → ⊥) → PageReason s r a 11
  no_user : (bit bit_u (resolve s r (a / 4096)) ≡ 1 → ⊥) → PageReason s r a 12
  foreign : (PoolFrame s (resolve s r (a / 4096)) → ⊥) → PageReason s r a 15

-- what holds where none of them applies
pub record PageReady (s : Store) (r a : ℕ) : Type 0 where
  pub below : a < 2 ^ 38
  pub mapped : Mapped s r (a / 4096)
  pub user : bit bit_u (resolve s r (a / 4096)) ≡ 1
  pub pool : PoolFrame s (resolve s r (a / 4096))

-- a copy of n bytes needs the page of each byte i; for no bytes, the page of the address
abbrev pub Needs : ℕ → ℕ → Type 0
Needs n i = (i < n) ⊎ (i ≡ 0)

-- n bytes from va on: 1, 2, 3; 6, 11, 12 or 15 for a page needed
pub data CopyReason (s : Store) (root va n : ℕ) : ℕ → Type 0 where
  at_root : {k : ℕ} → RootReason s root k → CopyReason s root va n k
  page : {k : ℕ} (i : ℕ) → Needs n i → PageReason s root (va + i) k → CopyReason s root va n k

-- what holds where none of them applies
pub record CopyReady (s : Store) (root va n : ℕ) : Type 0 where
  pub at_root : RootReady s root
  pub pages : (i : ℕ) → Needs n i → PageReady s root (va + i)
