-- The words of the store are entries: a pointer is the entry of its table's address without permissions, and an entry of a pool
-- frame's address names that frame. Assumes nothing.
use mathlib.Core.Path.{◌≡◌}
use Prim.Native.Nat.{ℕ, ◌+◌, ◌*◌, ◌≤◌}
use native.Mathlib.Omega.{arith}
use Rattle.page_table_entry.specs.Built.{entry_of}
use Rattle.store.specs.Store.{pointer_to, frame_no, pool_no}

pub pointer_entry : (t : ℕ) → entry_of (0x1_0000_0000 + 4096 * t) 0 ≡ pointer_to t
pointer_entry t = omega arith

pub pool_entry_lem : (f perm : ℕ) → perm ≤ 1023 → frame_no (entry_of (0x1_1000_0000 + 4096 * f) perm) ≡ pool_no f
pool_entry_lem f perm h = omega arith
