-- The digits so far are read, and the number goes on from there.
use Rattle.command.proofs.Parsing.{Going}
use Rattle.command.proofs.number.read_number.Given as goal

abbrev pub invariant-loop-b : goal.invariant-loop-b
invariant-loop-b l = Going l.s l.number l.b-index
