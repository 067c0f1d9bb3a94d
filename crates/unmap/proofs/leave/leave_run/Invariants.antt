-- The invariant of the loop.
use Rattle.unmap.proofs.LeaveSlots.{Going}
use Rattle.unmap.proofs.leave.leave_run.Given as goal

abbrev pub invariant-loop-word : goal.invariant-loop-word
invariant-loop-word l = Going l.fn.words l.fn.fmarks l.m l.n l.freeing l.word-items l.fmarks l.word-index
