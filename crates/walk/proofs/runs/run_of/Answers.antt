-- `walk::runs::run_of` meets its contract. Assumes nothing.
use mathlib.Core.Path.{◌≡◌}
use Prim.Native.Nat.{◌+◌, ◌-◌}
use native.Mathlib.Omega.{arith}
use Rattle.store.proofs.Tests.{yes}
use Rattle.well_formed.proofs.Slices.{part_to}
use Rattle.walk.proofs.RangeLaws.{empty_run}
use Rattle.walk.proofs.runs.run_of.Goals as goal

pub returns : goal.returns
returns c =
    let a = c.args in
    let zero = part_to a.words.now (a.m - 2) (a.m - 2 + 64) (omega arith) (omega arith) (λ x. x ≡ 0) (yes c.zeros.result c.if-not-zeros.false c.zeros.ensures) in
    empty_run a.words.now a.m (omega arith) (omega arith) zero
