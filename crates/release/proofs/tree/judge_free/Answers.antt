-- `release::tree::judge_free` meets its contract. Assumes nothing.
use Rattle.release.proofs.FreeReasons.{no_18, all_clear}
use Rattle.release.proofs.tree.judge_free.Goals as goal

pub returns-then-count_pages-ne0 : goal.returns-then-count_pages-ne0
returns-then-count_pages-ne0 c = no_18 _ _ c.in_ok-judge_root.ensures _ c.count_pages.ensures c.if-count_pages-ne0.true

pub returns : goal.returns
returns c = all_clear _ _ c.in_ok-judge_root.ensures _ c.count_pages.ensures c.if-count_pages-ne0.false
