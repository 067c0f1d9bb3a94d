-- No count is above the number of rows so far.
use Rattle.std.proofs.Common.{◌≤◌}
use Rattle.vectors.proofs.replay.all.Given as goal

abbrev pub invariant-loop-index : goal.invariant-loop-index
invariant-loop-index g l =
    (l.found.equal ≤ l.index-counter) × (l.found.listed ≤ l.index-counter) × (l.found.wrong ≤ l.index-counter)
