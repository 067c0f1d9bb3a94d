-- `uvm_copy`: why it is refused, and the store afterwards.
use Rattle.std.specs.Prelude.{◌≡◌, List, ℕ, ◌*◌, ◌/◌, ◌%◌, ◌^◌, ◌≤◌, ◌<◌, Result}
use Rattle.refusal.specs.declared.Refusal.{Refusal}
use Rattle.page_table_entry.specs.Layout.{flags}
use Rattle.store.specs.Store.{Store}
use Rattle.store.specs.Walk.{resolve}
use Rattle.store.specs.Outcome.{Outcome}
use Rattle.well_formed.specs.Root.{RootReason, RootReady}
use Rattle.walk.specs.Mapped.{Mapped}
use Rattle.unmap.specs.Leave.{PoolFrame}
use Rattle.fresh.specs.Fresh.{FreshReason, FreshReady, fresh_pages}
use Rattle.copies.specs.Bytes.{bytes_at}

-- the pages of size bytes from 0 on, of the parent and of the child: 1, 2, 3 for either root; 4, 6, 7; 11 and 15 speak of the parent, 14 of the child, and 16 and 17 of what the child needs
pub data ChildReason (s : Store) (parent child size : ℕ) : ℕ → Type 0 where
  at_parent : {k : ℕ} → RootReason s parent k → ChildReason s parent child size k
  at_child : {k : ℕ} → RootReason s child k → ChildReason s parent child size k
  same : child ≡ parent → ChildReason s parent child size 4
  too_large : 2 ^ 38 < size → ChildReason s parent child size 6
  unaligned : (size % 4096 ≡ 0 → ⊥) → ChildReason s parent child size 7
  unmapped : (p : ℕ) → p < size / 4096 → (Mapped s parent p → ⊥) → ChildReason s parent child size 11
  foreign : (p : ℕ) → p < size / 4096 → (PoolFrame s (resolve s parent p) → ⊥) → ChildReason s parent child size 15
  fresh : {k : ℕ} → FreshReason s child 0 (size / 4096) k → ChildReason s parent child size k

-- what holds where none of them applies
pub record ChildReady (s : Store) (parent child size : ℕ) : Type 0 where
  pub at_parent : RootReady s parent
  pub at_child : RootReady s child
  pub apart : child ≡ parent → ⊥
  pub small : size ≤ 2 ^ 38
  pub aligned : size % 4096 ≡ 0
  pub mapped : (p : ℕ) → p < size / 4096 → Mapped s parent p
  pub pool : (p : ℕ) → p < size / 4096 → PoolFrame s (resolve s parent p)
  pub fresh : FreshReady s child 0 (size / 4096)

-- the flags and the bytes of page p of root r
abbrev pub page_flags : Store → ℕ → ℕ → ℕ
page_flags s r p = flags (resolve s r p)

abbrev pub page_bytes : Store → ℕ → ℕ → List ℕ
page_bytes s r p = bytes_at s r (4096 * p) 4096

-- the child's pages have fresh frames with the parent's flags and bytes; the answer names no value, and it is 0
abbrev pub ChildDone : Store → ℕ → ℕ → ℕ → ℕ → Store → Type 0
ChildDone s parent child size v s' = (v ≡ 0) × (s' ≡ fresh_pages s child 0 (size / 4096) (page_flags s parent) (page_bytes s parent))

abbrev pub Child : Store → ℕ → ℕ → ℕ → Result ℕ Refusal → Store → Type 0
Child s parent child size r s' = Outcome (ChildReason s parent child size) (ChildDone s parent child size) s r s'
