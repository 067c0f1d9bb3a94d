-- The invariants of the loops.
use mathlib.Core.Path.{◌≡◌}
use Rattle.walk.proofs.Groups.{block_from, Counted}
use Rattle.walk.proofs.missing.missing_tables.Given as goal

abbrev pub invariant-loop-group : goal.invariant-loop-group
invariant-loop-group l = (l.block ≡ block_from l.first l.stop l.group) × Counted l.words l.pages.root l.first l.stop l.group l.n
