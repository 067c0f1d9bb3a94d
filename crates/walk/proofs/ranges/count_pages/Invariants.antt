-- The invariants of the loops.
use Prim.Native.Nat.{◌-◌, ◌≤◌}
use Rattle.walk.specs.Ranges.{PagesAlike}
use Rattle.walk.proofs.ranges.count_pages.Given as goal

abbrev pub invariant-loop-page : goal.invariant-loop-page
invariant-loop-page l = (l.pages.first ≤ l.page) × (l.page ≤ l.end) × PagesAlike l.words l.pages.root l.pages.first l.page l.bits.mask l.bits.value l.n

abbrev pub decreases-loop-page : goal.decreases-loop-page
decreases-loop-page l = l.end - l.page
