-- `enter::enter::put_run` meets its contract. The invariant: the slots before i are written, and writing the rest gives the whole. Assumes nothing.
use Rattle.enter.proofs.PutRun.{run_start, run_next, run_done}
use Rattle.enter.proofs.enter.put_run.Goals as goal

pub loop-i-init : goal.loop-i-init
loop-i-init c = let a = c.args in run_start a.words.now a.m a.n a.e

pub loop-i-preserved : goal.loop-i-preserved
loop-i-preserved c =
    let a = c.args in
    let l = c.loop-i in
    run_next a.words.now a.m a.n a.e l.words l.i l.invariant c.requires.0 c.loop-i-test.true

pub returns : goal.returns
returns c =
    let a = c.args in
    let l = c.loop-i in
    run_done a.words.now a.m a.n a.e l.words l.i l.invariant c.loop-i-test.false
