-- `grow::init::judge_init` meets its contract. Assumes nothing.
use Rattle.grow.proofs.InitReasons.{no_5, by_page}
use Rattle.grow.proofs.init.judge_init.Goals as goal

pub returns-then-src-ge4096 : goal.returns-then-src-ge4096
returns-then-src-ge4096 c = no_5 _ _ _ c.in_ok-judge_root.ensures c.if-src-ge4096.true

pub returns : goal.returns
returns c = by_page _ _ _ c.in_ok-judge_root.ensures c.if-src-ge4096.false _ c.judge_fresh.ensures
