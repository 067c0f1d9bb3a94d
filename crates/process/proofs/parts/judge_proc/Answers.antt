-- `process::parts::judge_proc` meets its contract. Assumes nothing.
use Rattle.std.proofs.lemmas.Result.{err_from_is_err_and}
use Rattle.process.proofs.PageLaws.{trapframe_refused, proc_judged}
use Rattle.store.specs.Store.{seen}
use Rattle.process.proofs.parts.judge_proc.Goals as goal

pub returns-in_err-judge_leave : goal.returns-in_err-judge_leave
returns-in_err-judge_leave c =
    let a = c.args in
    let p = err_from_is_err_and c.from_residual-in_err-judge_leave.result c.from_residual-in_err-judge_leave.ensures.1 in rw (p.1, p.2)
    (trapframe_refused (seen a.store.now) a.root a.size c.in_ok-judge_unmap.ensures _ c.in_err-judge_leave.ensures)

pub returns : goal.returns
returns c =
    let a = c.args in
    proc_judged (seen a.store.now) a.root a.size c.in_ok-judge_unmap.ensures c.in_ok-judge_leave.ensures _ c.judge_rest.ensures
