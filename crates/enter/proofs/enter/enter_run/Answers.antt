-- `enter::enter::enter_run` meets its contract. Assumes nothing.
use borrow.Author.Rules.{rules}
use Rattle.enter.proofs.Slots.{run_fits, run_entered}
use Rattle.enter.proofs.enter.enter_run.Goals as goal

pub put_run-requires : goal.put_run-requires
put_run-requires c =
    let a = c.args in
    let h = c.hang_tables in
    run_fits a.words.now a.tmarks.now a.root a.page a.n a.e h.new.words h.new.tmarks _ h.ensures c.slot_of-m.ensures c.requires (search rules)

pub returns : goal.returns
returns c =
    let a = c.args in
    let h = c.hang_tables in
    run_entered a.words.now a.tmarks.now a.root a.page a.n a.e h.new.words h.new.tmarks _ h.ensures c.slot_of-m.ensures c.put_run.new.words c.put_run.ensures
