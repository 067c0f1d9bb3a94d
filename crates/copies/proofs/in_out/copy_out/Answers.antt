-- `copies::in_out::copy_out` meets its contract. Assumes nothing.
use Rattle.copies.proofs.InOutLaws.{out_done}
use Rattle.copies.proofs.in_out.copy_out.Goals as goal

pub returns : goal.returns
returns c = out_done _ _ _ _ c.in_ok-judge_copy.ensures _ c.write_bytes.ensures
