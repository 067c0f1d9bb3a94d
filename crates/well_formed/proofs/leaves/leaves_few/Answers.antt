-- `well_formed::leaves::leaves_few` meets its contract. Assumes nothing.
use Prim.Native.Nat.{zero-le}
use Rattle.well_formed.proofs.WordLaws.{leaves_zero, leaves_high, leaves_out}
use Rattle.well_formed.proofs.leaves.leaves_few.Goals as goal

pub returns-then-x-eq0 : goal.returns-then-x-eq0
returns-then-x-eq0 c = leaves_zero _ _ _ zero-le _ c.any-x.ensures c.if-x-eq0.true

pub returns-then-x-ge18014398509481984 : goal.returns-then-x-ge18014398509481984
returns-then-x-ge18014398509481984 c = leaves_high _ _ _ zero-le _ c.any-x.ensures c.if-x-ge18014398509481984.true

pub returns-then-x-eq0-2 : goal.returns-then-x-eq0-2
returns-then-x-eq0-2 c = leaves_out _ _ _ zero-le _ c.any-x.ensures _ c.flags.ensures c.if-x-ge18014398509481984.false c.if-flags-ne0.false c.if-x-eq0-2.true
