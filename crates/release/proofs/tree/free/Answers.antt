-- `release::tree::free` meets its contract. Assumes nothing.
use Rattle.release.proofs.FreeLaws.{done}
use Rattle.release.proofs.tree.free.Goals as goal

pub returns : goal.returns
returns c = done _ _ c.in_ok-judge_free.ensures _ _ _ c.free_table.ensures
