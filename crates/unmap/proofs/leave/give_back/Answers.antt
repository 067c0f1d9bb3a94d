-- `unmap::leave::give_back` meets its contract. Assumes nothing.
use mathlib.Core.Path.{◌∙◌}
use native.Mathlib.Omega.{arith}
use Rattle.unmap.proofs.LeaveSlots.{given_none, given_one}
use Rattle.unmap.proofs.leave.give_back.Goals as goal

pub returns-then-frame-ge1114112 : goal.returns-then-frame-ge1114112
returns-then-frame-ge1114112 c = c.put_mark.ensures ∙ given_one _ _ _ (c.if-frame-ge1114112.true, omega arith)

pub returns-else-frame-ge1114112 : goal.returns-else-frame-ge1114112
returns-else-frame-ge1114112 c = given_none _ _ (λ h. omega (arith, h, c.if-frame-ge1114112.false))
