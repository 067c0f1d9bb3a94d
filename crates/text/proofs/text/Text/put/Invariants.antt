-- The bytes so far are written.
use Rattle.std.proofs.Common.{take}
use Rattle.text.specs.Text.{Wrote}
use Rattle.text.proofs.text.Text.put.Given as goal

abbrev pub invariant-loop-b : goal.invariant-loop-b
invariant-loop-b l = Wrote l.initial.self (take l.b-index l.bytes) l.self
