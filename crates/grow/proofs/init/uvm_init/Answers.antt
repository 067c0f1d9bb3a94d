-- `grow::init::uvm_init` meets its contract. Assumes nothing.
use native.Mathlib.Omega.{arith}
use Rattle.grow.proofs.InitLaws.{may_enter, frame_in, done}
use Rattle.grow.proofs.init.uvm_init.Goals as goal

pub enter_frame-f-requires : goal.enter_frame-f-requires
enter_frame-f-requires c = (may_enter _ _ _ c.in_ok-judge_init.ensures, omega arith)

pub overflow_mul-to : goal.overflow_mul-to
overflow_mul-to c = omega (arith, frame_in _ _ _ c.in_ok-judge_init.ensures _ c.enter_frame-f.ensures.frame)

pub overflow_add-to : goal.overflow_add-to
overflow_add-to c = omega (arith, frame_in _ _ _ c.in_ok-judge_init.ensures _ c.enter_frame-f.ensures.frame)

pub slice_bounds-write_frame-end : goal.slice_bounds-write_frame-end
slice_bounds-write_frame-end c = frame_in _ _ _ c.in_ok-judge_init.ensures _ c.enter_frame-f.ensures.frame

pub returns : goal.returns
returns c = done _ _ _ c.in_ok-judge_init.ensures _ _ _ _ _ c.enter_frame-f.ensures c.write_frame.ensures
