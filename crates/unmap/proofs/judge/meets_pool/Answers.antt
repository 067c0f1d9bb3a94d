-- `unmap::judge::meets_pool` meets its contract. Assumes nothing.
use Rattle.unmap.proofs.LeaveReasons.{pool_said}
use Rattle.unmap.proofs.judge.meets_pool.Goals as goal

pub returns-then-not-freeing : goal.returns-then-not-freeing
returns-then-not-freeing c = pool_said _ _ _ _ c.requires c.args.pages.in_order c.args.pages.within _ _ c.count_pages.ensures c.if-not-freeing.true
