-- `unmap::leave::leave_pages` meets its contract. The invariant: the pages before i have left, and the leaving of the rest gives the whole. Assumes nothing.
use native.Mathlib.Omega.{arith}
use Rattle.unmap.proofs.LeavePages.{leavable, start, asks, can, after, done}
use Rattle.unmap.proofs.leave.leave_pages.Goals as goal

pub loop-i-init : goal.loop-i-init
loop-i-init c = start _ _ _ _ _ (leavable _ _ _ _ _ c.requires)

pub overflow_add-page : goal.overflow_add-page
overflow_add-page c = omega (arith, asks _ _ _ _ _ _ _ c.loop-i.invariant c.loop-i-test.true)

pub slot_of-m-requires : goal.slot_of-m-requires
slot_of-m-requires c = asks _ _ _ _ _ _ _ c.loop-i.invariant c.loop-i-test.true

pub leave_run-requires : goal.leave_run-requires
leave_run-requires c = can _ _ _ _ _ _ _ c.loop-i.invariant c.loop-i-test.true _ _ c.min-k.ensures c.slot_of-m.ensures

pub loop-i-preserved : goal.loop-i-preserved
loop-i-preserved c = after _ _ _ _ _ _ _ c.loop-i.invariant c.loop-i-test.true _ _ c.min-k.ensures c.slot_of-m.ensures _ (c.leave_run.ensures _ _)

pub returns : goal.returns
returns c = done _ _ _ _ _ _ _ c.loop-i.invariant c.loop-i-test.false
