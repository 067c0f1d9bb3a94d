-- `grow::growing::grow_pages` meets its contract. The invariant: the pages before i have their frames, and going on gives the whole. Assumes nothing.
use native.Mathlib.Omega.{arith}
use Rattle.fresh.proofs.FreshPages.{growable}
use Rattle.fresh.proofs.GrowLoop.{start, fits, done}
use Rattle.grow.proofs.GrowCode.{frame_in, after}
use Rattle.grow.proofs.growing.grow_pages.Goals as goal

pub loop-i-init : goal.loop-i-init
loop-i-init c = start _ _ _ _ _ _ (growable _ _ _ _ c.requires)

pub enter_frame-f-requires : goal.enter_frame-f-requires
enter_frame-f-requires c = (fits _ _ _ _ _ _ _ _ _ c.loop-i.invariant c.loop-i-test.true, omega arith)

pub overflow_mul-to : goal.overflow_mul-to
overflow_mul-to c = omega (arith, frame_in _ _ _ _ _ _ _ _ _ _ c.loop-i.invariant c.loop-i-test.true _ c.enter_frame-f.ensures.frame)

pub overflow_add-to : goal.overflow_add-to
overflow_add-to c = omega (arith, frame_in _ _ _ _ _ _ _ _ _ _ c.loop-i.invariant c.loop-i-test.true _ c.enter_frame-f.ensures.frame)

pub slice_bounds-fill-end : goal.slice_bounds-fill-end
slice_bounds-fill-end c = (frame_in _ _ _ _ _ _ _ _ _ _ c.loop-i.invariant c.loop-i-test.true _ c.enter_frame-f.ensures.frame).0

pub loop-i-preserved : goal.loop-i-preserved
loop-i-preserved c = after _ _ _ _ _ _ _ _ _ _ c.loop-i.invariant c.loop-i-test.true _ _ _ _ _ c.enter_frame-f.ensures (c.fill.ensures.after (λ _ e. e))

pub returns : goal.returns
returns c = done _ _ _ _ _ _ _ _ _ c.loop-i.invariant c.loop-i-test.false
