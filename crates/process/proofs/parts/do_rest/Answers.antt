-- `process::parts::do_rest` meets its contract. Assumes nothing.
use Rattle.process.proofs.RestLaws.{rest_done}
use Rattle.store.specs.Store.{store_of}
use Rattle.process.proofs.parts.do_rest.Goals as goal

pub returns : goal.returns
returns c =
    let a = c.args in
    let l = c.leave_pages in
    let r = c.free_table in
    rest_done (store_of a.words.now a.tmarks.now a.bytes.now a.fmarks.now) a.root a.size c.requires _ c.pages_to.ensures _ l.ensures _ _ _ r.ensures
