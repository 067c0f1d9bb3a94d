-- The invariants of the loops.
use Rattle.enter.proofs.PutRun.{Putting}
use Rattle.enter.proofs.enter.put_run.Given as goal

abbrev pub invariant-loop-i : goal.invariant-loop-i
invariant-loop-i l = Putting l.initial.words l.m l.n l.e l.words l.i
