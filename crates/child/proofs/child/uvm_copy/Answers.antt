-- `child::child::uvm_copy` meets its contract. Assumes nothing.
use Rattle.child.proofs.ChildLaws.{done}
use Rattle.child.proofs.child.uvm_copy.Goals as goal

pub returns : goal.returns
returns c = done _ _ _ _ c.in_ok-judge_child.ensures _ c.copy_pages.ensures
