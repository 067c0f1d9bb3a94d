-- The invariants of the loops.
use Prim.Native.Nat.{◌-◌, ◌≤◌}
use Rattle.well_formed.specs.Scan.{Over}
use Rattle.walk.specs.Ranges.{alike, page_under}
use Rattle.walk.proofs.ranges.count_group.Given as goal

abbrev pub invariant-loop-page : goal.invariant-loop-page
invariant-loop-page l = (l.first ≤ l.page) × (l.page ≤ l.end) × Over (alike l.bits.mask l.bits.value (page_under l.words l.top)) l.first l.page l.n

abbrev pub decreases-loop-page : goal.decreases-loop-page
decreases-loop-page l = l.end - l.page
