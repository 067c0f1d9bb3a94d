-- `process::parts::judge_uvm_free` meets its contract. Assumes nothing.
use Rattle.std.proofs.lemmas.Result.{err_from_is_err_and}
use Rattle.process.proofs.CutLaws.{root_refused}
use Rattle.store.specs.Store.{seen}
use Rattle.process.proofs.parts.judge_uvm_free.Goals as goal

pub returns-in_err-judge_root : goal.returns-in_err-judge_root
returns-in_err-judge_root c =
    let a = c.args in
    let p = err_from_is_err_and c.from_residual.result c.from_residual.ensures.1 in rw (p.1, p.2)
    (root_refused (seen a.store.now) a.root a.size _ c.in_err-judge_root.ensures)
