-- `fresh::fresh::enter_frame` meets its contract. Assumes nothing.
use Rattle.fresh.proofs.FrameCode.{frame_entered}
use Rattle.fresh.proofs.fresh.enter_frame.Goals as goal

pub returns : goal.returns
returns c = frame_entered _ _ _ _ _ _ _ _ _ c.hang_tables.ensures c.slot_of-m.ensures _ _ _ c.take_frame.ensures
