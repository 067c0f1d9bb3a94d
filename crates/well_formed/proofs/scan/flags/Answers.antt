-- `well_formed::scan::flags` meets its contract. Assumes nothing.
use Prim.Native.Nat.{zero-le}
use Rattle.well_formed.proofs.Ors.{flags_more}
use Rattle.well_formed.proofs.scan.flags.Goals as goal

pub loop-word-preserved : goal.loop-word-preserved
loop-word-preserved c = flags_more _ _ _ _ _ zero-le c.loop-word.invariant c.flag-acc.ensures
