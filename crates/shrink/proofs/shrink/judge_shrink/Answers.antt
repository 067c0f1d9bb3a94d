-- `shrink::shrink::judge_shrink` meets its contract. Assumes nothing.
use Rattle.shrink.proofs.ShrinkReasons.{by_pages}
use Rattle.shrink.proofs.shrink.judge_shrink.Goals as goal

pub returns : goal.returns
returns c = by_pages _ _ _ _ c.in_ok-judge_sizes.ensures _ _ c.pages_to-first.ensures c.pages_to-end.ensures _ c.judge_leave.ensures
