-- The invariants of the loops.
use Prim.Native.Nat.{◌*◌}
use lib.ListN.{drop}
use lib.Seq.{paste}
use mathlib.Core.Path.{◌≡◌}
use Rattle.child.proofs.child.copy_frame.Given as goal

abbrev pub invariant-loop-i : goal.invariant-loop-i
invariant-loop-i l = l.bytes ≡ paste l.initial.bytes (4096 * l.f) (drop (4096 * l.g) l.initial.bytes) l.i
