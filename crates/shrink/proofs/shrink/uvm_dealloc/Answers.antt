-- `shrink::shrink::uvm_dealloc` meets its contract. Assumes nothing.
use native.Mathlib.Omega.{arith}
use Rattle.shrink.proofs.ShrinkLaws.{done}
use Rattle.shrink.proofs.shrink.uvm_dealloc.Goals as goal

pub returns : goal.returns
returns c =
    done _ _ _ _ c.in_ok-judge_shrink.ensures _ _ _ c.pages_to-first.ensures c.pages_to.ensures c.saturating_sub-n.ensures _ _ (omega arith) c.leave_pages.ensures
