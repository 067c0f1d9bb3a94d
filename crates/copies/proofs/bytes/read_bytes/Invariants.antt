-- The invariants of the loops.
use Prim.Native.Nat.{◌-◌, ◌≤◌}
use lib.ListN.{length}
use mathlib.Core.Path.{◌≡◌}
use Rattle.copies.proofs.BytesCode.{Reading}
use Rattle.store.specs.Store.{seen}
use Rattle.copies.proofs.bytes.read_bytes.Given as goal

abbrev pub invariant-loop-i : goal.invariant-loop-i
invariant-loop-i l = (l.i ≤ length l.initial.dst) × (length l.dst ≡ length l.initial.dst) × Reading (seen l.store) l.root l.va l.initial.dst l.dst l.i

abbrev pub decreases-loop-i : goal.decreases-loop-i
decreases-loop-i l = length l.initial.dst - l.i
