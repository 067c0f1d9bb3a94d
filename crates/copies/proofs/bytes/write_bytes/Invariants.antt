-- The invariants of the loops.
use Prim.Native.Nat.{◌-◌, ◌≤◌}
use lib.ListN.{length}
use mathlib.Core.Path.{◌≡◌}
use Rattle.copies.proofs.BytesCode.{Writing}
use Rattle.store.specs.Store.{store_of}
use Rattle.copies.proofs.bytes.write_bytes.Given as goal

abbrev pub invariant-loop-i : goal.invariant-loop-i
invariant-loop-i l = (l.i ≤ length l.src) × (length l.bytes ≡ length l.initial.bytes) × Writing (store_of l.words l.tmarks l.initial.bytes l.fmarks) l.root l.va l.src l.initial.bytes l.bytes l.i

abbrev pub decreases-loop-i : goal.decreases-loop-i
decreases-loop-i l = length l.src - l.i
