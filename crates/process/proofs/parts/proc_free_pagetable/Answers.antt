-- `process::parts::proc_free_pagetable` meets its contract. Assumes nothing.
use Rattle.process.proofs.PageLaws.{proc_done}
use Rattle.store.specs.Store.{store_of}
use Rattle.process.proofs.parts.proc_free_pagetable.Goals as goal

pub returns : goal.returns
returns c =
    let a = c.args in
    let l = c.leave_pages in
    let n = c.leave_pages-2 in
    let d = c.do_rest in
    proc_done (store_of a.words.now a.tmarks.now a.bytes.now a.fmarks.now) a.root a.size _ l.ensures _ n.ensures c.in_ok-judge_proc.ensures _ (store_of d.new.words d.new.tmarks a.bytes.now d.new.fmarks) d.ensures
