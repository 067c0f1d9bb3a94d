-- `enter::enter::hang_tables` meets its contract. Assumes nothing.
use native.Mathlib.Omega.{arith}
use Rattle.enter.proofs.Slots.{same_marks, fits, both_hung}
use Rattle.enter.proofs.enter.hang_tables.Goals as goal

pub hang-requires-2 : goal.hang-requires-2
hang-requires-2 c =
    let a = c.args in
    let h = c.hang in
    let m = same_marks a.words.now a.tmarks.now _ h.new.words h.new.tmarks h.ensures in (
      omega (arith, m, c.requires.tables),
      fits a.words.now a.tmarks.now a.root a.page h.new.words h.new.tmarks h.ensures _ _ c.slot_word.ensures c.slot_in-middle.ensures c.requires,
    )

pub returns : goal.returns
returns c =
    let a = c.args in
    let h = c.hang in
    let g = c.hang-2 in
    both_hung a.words.now a.tmarks.now a.root a.page h.new.words h.new.tmarks h.ensures _ _ c.slot_word.ensures c.slot_in-middle.ensures
    g.new.words g.new.tmarks g.ensures
