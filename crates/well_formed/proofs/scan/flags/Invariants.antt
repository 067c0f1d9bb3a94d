-- The invariants of the loops.
use Rattle.well_formed.specs.Scan.{FlagsOf}
use Rattle.well_formed.proofs.scan.flags.Given as goal

abbrev pub invariant-loop-word : goal.invariant-loop-word
invariant-loop-word l = FlagsOf l.words 0 l.word-index l.acc
