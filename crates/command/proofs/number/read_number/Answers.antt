-- `command::number::read_number` meets its contract. Assumes nothing.
use mathlib.Core.Path.{◌∙◌}
use native.Mathlib.Omega.{arith}
use Rattle.std.proofs.lemmas.Bool.Decides.{nat_tests}
use Rattle.command.proofs.Parsing.{begins, other_byte, too_large, again, ends}
use Rattle.command.proofs.number.read_number.Goals as goal

pub loop-b-init : goal.loop-b-init
loop-b-init c = begins c.args.s.now (grind (arith, nat_tests))

pub returns-then-not-is_ascii_digit : goal.returns-then-not-is_ascii_digit
returns-then-not-is_ascii_digit c = other_byte c.loop-b.invariant c.loop-b-test.true c.if-not-is_ascii_digit.ensures.cases

pub returns-in_err-checked_mul : goal.returns-in_err-checked_mul
returns-in_err-checked_mul c = c.from_residual.ensures ∙ too_large c.loop-b.invariant c.loop-b-test.true (omega (arith, c.in_err-checked_mul.ensures))

pub returns-in_err-number : goal.returns-in_err-number
returns-in_err-number c =
    c.from_residual-in_err-number.ensures ∙ too_large c.loop-b.invariant c.loop-b-test.true (omega (arith, c.from.ensures, c.in_ok-checked_mul.ensures, c.in_err-number.ensures))

pub loop-b-preserved : goal.loop-b-preserved
loop-b-preserved c = again c.loop-b.invariant c.loop-b-test.true c.if-not-is_ascii_digit.ensures.cases (omega (arith, c.from.ensures, c.in_ok-checked_mul.ensures, c.in_ok-number.ensures)) (omega (arith, c.in_ok-number.ensures))

pub returns : goal.returns
returns c = ends c.loop-b.invariant (omega arith)
