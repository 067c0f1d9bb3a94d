-- `grow::growing::judge_grow` meets its contract. Assumes nothing.
use Rattle.grow.proofs.GrowReasons.{by_pages, no_pages}
use Rattle.grow.proofs.growing.judge_grow.Goals as goal

pub returns-then-end-first : goal.returns-then-end-first
returns-then-end-first c = no_pages _ _ _ _ c.in_ok-judge_sizes.ensures _ _ c.pages_to-first.ensures c.pages_to-end.ensures c.if-end-first.true

pub returns : goal.returns
returns c = by_pages _ _ _ _ c.in_ok-judge_sizes.ensures _ _ c.pages_to-first.ensures c.pages_to-end.ensures _ c.judge_fresh.ensures
