-- `unmap::unmapping::uvm_unmap` meets its contract. Assumes nothing.
use Rattle.unmap.proofs.UnmapLaws.{done_none, may_leave, done_all}
use Rattle.unmap.proofs.unmapping.uvm_unmap.Goals as goal

pub returns-then-n-eq0 : goal.returns-then-n-eq0
returns-then-n-eq0 c = done_none _ _ _ _ _ c.in_ok-judge_unmap.ensures c.if-n-eq0.true

pub leave_pages-requires : goal.leave_pages-requires
leave_pages-requires c = may_leave _ _ _ _ _ c.in_ok-judge_unmap.ensures c.if-n-eq0.false

pub returns : goal.returns
returns c = done_all _ _ _ _ _ c.in_ok-judge_unmap.ensures _ c.leave_pages.ensures
