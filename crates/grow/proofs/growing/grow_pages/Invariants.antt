-- The invariant of the loop.
use Rattle.store.specs.Store.{store_of}
use Rattle.grow.specs.Grow.{zeroed}
use Rattle.fresh.proofs.GrowLoop.{Growing}
use Rattle.grow.proofs.growing.grow_pages.Given as goal

abbrev pub invariant-loop-i : goal.invariant-loop-i
invariant-loop-i l = Growing (store_of l.initial.words l.initial.tmarks l.initial.bytes l.initial.fmarks) l.root l.first l.n (λ _. 31) (λ _. zeroed) (store_of l.words l.tmarks l.bytes l.fmarks) l.i l.from
