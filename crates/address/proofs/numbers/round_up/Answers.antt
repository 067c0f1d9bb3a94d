-- `address::numbers::round_up` meets its contract: where the sum is refused, so is what it is rounded down to. Assumes nothing.
use Rattle.std.proofs.lemmas.Result.{err_from_is_err_and}
use Rattle.address.specs.Answer.{said}
use Rattle.address.proofs.Answers.{then_outside}
use Rattle.address.proofs.numbers.round_up.Goals as goal

pub returns-in_err-sum : goal.returns-in_err-sum
unfolding said
returns-in_err-sum c = let p = err_from_is_err_and c.from_residual.result c.from_residual.ensures.1 in rw (p.1, p.2) (then_outside _ c.in_err-sum.ensures)
