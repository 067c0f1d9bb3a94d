-- The invariant of the loop.
use Prim.Native.Nat.{◌-◌}
use Rattle.store.specs.Store.{store_of}
use Rattle.unmap.proofs.LeavePages.{Leaving}
use Rattle.unmap.proofs.leave.leave_pages.Given as goal

abbrev pub invariant-loop-i : goal.invariant-loop-i
invariant-loop-i l = Leaving (store_of l.initial.words l.tmarks l.bytes l.initial.fmarks) l.root l.first l.n l.freeing (store_of l.words l.tmarks l.bytes l.fmarks) l.i

abbrev pub decreases-loop-i : goal.decreases-loop-i
decreases-loop-i l = l.n - l.i
