-- The invariants of the loops.
use mathlib.Core.Path.{◌≡◌}
use lib.ListN.{take}
use Rattle.std.specs.Prelude.{◌==◌, bit_and}
use Rattle.std.specs.List.{count_by}
use Rattle.walk.proofs.ranges.count_part.Given as goal

abbrev pub invariant-loop-x : goal.invariant-loop-x
invariant-loop-x l = l.n ≡ count_by (λ x. bit_and x l.bits.mask == l.bits.value) (take l.x-index l.words)
