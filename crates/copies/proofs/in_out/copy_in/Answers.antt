-- `copies::in_out::copy_in` meets its contract. Assumes nothing.
use Rattle.copies.proofs.InOutLaws.{in_done}
use Rattle.copies.proofs.in_out.copy_in.Goals as goal

pub returns : goal.returns
returns c = in_done _ _ _ _ c.in_ok-judge_copy.ensures _ c.read_bytes.ensures
