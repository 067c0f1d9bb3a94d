-- `process::parts::free_shared_user_pagetable` meets its contract. Assumes nothing.
use Rattle.process.proofs.PageLaws.{shared_done}
use Rattle.store.specs.Store.{store_of}
use Rattle.process.proofs.parts.free_shared_user_pagetable.Goals as goal

pub returns : goal.returns
returns c =
    let a = c.args in
    let l = c.leave_pages in
    let d = c.do_rest in
    shared_done (store_of a.words.now a.tmarks.now a.bytes.now a.fmarks.now) a.root a.size _ l.ensures c.in_ok-judge_shared.ensures _ (store_of d.new.words d.new.tmarks a.bytes.now d.new.fmarks) d.ensures
