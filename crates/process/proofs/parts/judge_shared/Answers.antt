-- `process::parts::judge_shared` meets its contract. Assumes nothing.
use Rattle.process.proofs.PageLaws.{shared_judged}
use Rattle.store.specs.Store.{seen}
use Rattle.process.proofs.parts.judge_shared.Goals as goal

pub returns : goal.returns
returns c =
    let a = c.args in
    shared_judged (seen a.store.now) a.root a.size c.in_ok-judge_unmap.ensures _ c.judge_rest.ensures
