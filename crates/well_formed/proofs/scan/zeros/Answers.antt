-- `well_formed::scan::zeros` meets its contract. Assumes nothing.
use native.Mathlib.Omega.{arith}
use Rattle.well_formed.proofs.Answered.{says_equal}
use Rattle.well_formed.proofs.Ors.{or_zero}
use Rattle.well_formed.proofs.scan.zeros.Goals as goal

pub returns : goal.returns
returns c = says_equal _ 0 (λ e k h l. omega (arith, c.any.ensures.above k h l)) (or_zero _ _ _ _ c.any.ensures)
