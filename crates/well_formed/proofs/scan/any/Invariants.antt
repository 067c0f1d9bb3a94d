-- The invariants of the loops.
use Rattle.well_formed.specs.Scan.{OrOf}
use Rattle.well_formed.proofs.scan.any.Given as goal

abbrev pub invariant-loop-word : goal.invariant-loop-word
invariant-loop-word l = OrOf l.words 0 l.word-index l.acc
