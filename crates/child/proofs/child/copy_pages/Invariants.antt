-- The invariants of the loops.
use Rattle.child.proofs.ChildLoop.{Copying}
use Rattle.store.specs.Store.{store_of}
use Rattle.child.proofs.child.copy_pages.Given as goal

abbrev pub invariant-loop-i : goal.invariant-loop-i
invariant-loop-i l = Copying (store_of l.initial.words l.initial.tmarks l.initial.bytes l.initial.fmarks) l.parent l.child l.size (store_of l.words l.tmarks l.bytes l.fmarks) l.i l.from
