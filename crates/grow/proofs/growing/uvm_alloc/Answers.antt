-- `grow::growing::uvm_alloc` meets its contract. Assumes nothing.
use Rattle.grow.proofs.GrowLaws.{done}
use Rattle.grow.proofs.growing.uvm_alloc.Goals as goal

pub returns : goal.returns
returns c =
    done _ _ _ _ c.in_ok-judge_grow.ensures _ _ _ c.pages_to-first.ensures c.pages_to.ensures c.saturating_sub-n.ensures _ _ c.max.ensures c.grow_pages.ensures
