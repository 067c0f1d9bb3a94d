-- `child::child::copy_pages` meets its contract. The invariant: the pages before i have gone over, and the parent's are as they were. Assumes nothing.
use native.Mathlib.Omega.{arith}
use Rattle.child.proofs.ChildLoop.{start, fits, flags_fit, in_pool_lem, frame_small, may_copy, after}
use Rattle.fresh.proofs.GrowLoop.{done}
use Rattle.child.proofs.child.copy_pages.Goals as goal

pub loop-i-init : goal.loop-i-init
loop-i-init c = start _ _ _ _ c.requires

pub enter_frame-f-requires : goal.enter_frame-f-requires
enter_frame-f-requires c =
    let g = c.loop-i.invariant in
    (fits _ _ _ _ c.requires _ _ _ _ _ _ g c.loop-i-test.true, flags_fit _ _ _ _ c.requires _ _ _ _ _ _ g c.loop-i-test.true _ _ c.slot_of.ensures c.slot_word-e.ensures)

pub overflow_sub-e : goal.overflow_sub-e
overflow_sub-e c = in_pool_lem _ _ _ _ c.requires _ _ _ _ _ _ c.loop-i.invariant c.loop-i-test.true _ _ c.slot_of.ensures c.slot_word-e.ensures

pub copy_frame-requires : goal.copy_frame-requires
copy_frame-requires c =
    may_copy _ _ _ _ c.requires _ _ _ _ _ _ c.loop-i.invariant c.loop-i-test.true _ _ c.slot_of.ensures c.slot_word-e.ensures _ c.enter_frame-f.ensures.frame

pub overflow_add-from : goal.overflow_add-from
overflow_add-from c =
    omega (arith, frame_small _ _ _ _ c.requires _ _ _ _ _ _ c.loop-i.invariant c.loop-i-test.true _ _ c.slot_of.ensures c.slot_word-e.ensures _ c.enter_frame-f.ensures.frame)

pub loop-i-preserved : goal.loop-i-preserved
loop-i-preserved c =
    after _ _ _ _ c.requires _ _ _ _ _ _ c.loop-i.invariant c.loop-i-test.true _ _ c.slot_of.ensures c.slot_word-e.ensures _ _ _ _ _ c.enter_frame-f.ensures c.copy_frame.ensures

pub returns : goal.returns
returns c = done _ _ _ _ _ _ _ _ _ c.loop-i.invariant.growing c.loop-i-test.false
