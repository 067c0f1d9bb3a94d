-- The invariants of the loops.
use Prim.Native.Nat.{◌*◌}
use Rattle.well_formed.specs.Scan.{Shapes, Over, windowed}
use Rattle.well_formed.proofs.leaves.leaves.Given as goal

abbrev pub invariant-loop-part : goal.invariant-loop-part
invariant-loop-part l = Shapes l.words 0 (64 * l.part-index) × Over (windowed l.words) 0 (64 * l.part-index) l.held
