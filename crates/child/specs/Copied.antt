-- What holds after `uvm_copy`, of the child's pages and bytes and of the parent's.
use Rattle.std.specs.Prelude.{◌≡◌, ℕ, ◌/◌, ◌^◌, ◌<◌}
use Rattle.page_table_entry.specs.Layout.{flags}
use Rattle.store.specs.Store.{Store, mark, frame_no}
use Rattle.store.specs.Walk.{resolve}
use Rattle.unmap.specs.Leave.{PoolFrame}
use Rattle.copies.specs.Bytes.{byte_at}

-- page p of root r has a pool frame that no other page of any root has
pub record OwnFrame (s : Store) (r p : ℕ) : Type 0 where
  pub pool : PoolFrame s (resolve s r p)
  pub alone : (r' p' : ℕ) → mark s.tmarks r' ≡ 1 → p' < 2 ^ 26 → frame_no (resolve s r' p') ≡ frame_no (resolve s r p) → (r' ≡ r) × (p' ≡ p)

-- s' is s where the child has got the parent's size bytes
pub record Copied (s : Store) (parent child size : ℕ) (s' : Store) : Type 0 where
  -- the child's pages have frames of their own, and the parent's flags
  pub own : (p : ℕ) → p < size / 4096 → OwnFrame s' child p
  pub flags : (p : ℕ) → p < size / 4096 → flags (resolve s' child p) ≡ flags (resolve s parent p)
  -- the byte at each of the child's addresses is the one that the parent had there, and still has
  pub bytes : (va : ℕ) → va < size → byte_at s' child va ≡ byte_at s parent va
  pub parent_bytes : (va : ℕ) → va < size → byte_at s' parent va ≡ byte_at s parent va
  -- the parent's pages resolve as before
  pub parent_pages : (p : ℕ) → p < 2 ^ 26 → resolve s' parent p ≡ resolve s parent p
