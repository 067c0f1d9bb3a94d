-- `well_formed::leaves::leaves` meets its contract. Assumes nothing.
use native.Mathlib.Omega.{arith}
use Rattle.well_formed.proofs.Chunks.{chunk_not, chunk_more}
use Rattle.well_formed.proofs.leaves.leaves.Goals as goal

pub returns-in_err-held : goal.returns-in_err-held
returns-in_err-held c =
    let f = c.as_chunks.ensures in
    rw c.from_residual.ensures (chunk_not _ _ f.front c.loop-part.part-index (omega (arith, f.front_len, c.loop-part-test.true)) c.in_err-held.ensures)

pub loop-part-preserved : goal.loop-part-preserved
loop-part-preserved c =
    let f = c.as_chunks.ensures in
    chunk_more _ _ f.front _ (omega (arith, f.front_len, c.loop-part-test.true)) _ _ c.loop-part.invariant c.in_ok-held.ensures
