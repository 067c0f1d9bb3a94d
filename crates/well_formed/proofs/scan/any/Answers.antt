-- `well_formed::scan::any` meets its contract. Assumes nothing.
use Prim.Native.Nat.{zero-le}
use Rattle.well_formed.proofs.Ors.{or_more}
use Rattle.well_formed.proofs.scan.any.Goals as goal

pub loop-word-preserved : goal.loop-word-preserved
loop-word-preserved c = or_more _ _ _ _ zero-le c.loop-word.invariant
