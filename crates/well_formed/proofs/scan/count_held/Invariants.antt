-- The invariants of the loops.
use Rattle.well_formed.specs.Scan.{Over, windowed}
use Rattle.well_formed.proofs.scan.count_held.Given as goal

abbrev pub invariant-loop-word : goal.invariant-loop-word
invariant-loop-word l = Over (windowed l.words) 0 l.word-index l.n
