-- The invariants of the loops.
use Prim.Native.Nat.{◌-◌}
use Rattle.store.specs.Store.{store_of}
use Rattle.enter.proofs.Going.{Going}
use Rattle.enter.proofs.enter.enter_pages.Given as goal

abbrev pub invariant-loop-i : goal.invariant-loop-i
invariant-loop-i l =
    Going (store_of l.initial.words l.initial.tmarks l.bytes l.fmarks) l.root l.first l.n l.e (store_of l.words l.tmarks l.bytes l.fmarks) l.i

abbrev pub decreases-loop-i : goal.decreases-loop-i
decreases-loop-i l = l.n - l.i
