-- `well_formed::words::words_ok` meets its contract. Assumes nothing.
use native.Mathlib.Omega.{arith}
use Rattle.well_formed.proofs.Parts.{part_more}
use Rattle.well_formed.proofs.words.words_ok.Goals as goal

pub loop-t-preserved : goal.loop-t-preserved
loop-t-preserved c = part_more _ _ _ _ _ _ _ (omega arith) (omega arith) c.loop-t.invariant c.in_ok-held.ensures
