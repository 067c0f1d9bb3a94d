-- `enter::enter::hang` meets its contract. Assumes nothing.
use native.Mathlib.Omega.{arith}
use Rattle.store.proofs.Free.{lowest_le}
use Rattle.enter.proofs.Slots.{hung_kept, hung_new}
use Rattle.enter.proofs.enter.hang.Goals as goal

pub returns-then-slot_word-ne0 : goal.returns-then-slot_word-ne0
returns-then-slot_word-ne0 c = hung_kept _ _ _ c.slot_word.result c.slot_word.ensures c.if-slot_word-ne0.true

pub overflow_mul-t : goal.overflow_mul-t
overflow_mul-t c = omega (arith, c.lowest_free-t.ensures, lowest_le c.args.tmarks.now, c.requires.0)

pub overflow_add-t : goal.overflow_add-t
overflow_add-t c = omega (arith, c.lowest_free-t.ensures, lowest_le c.args.tmarks.now, c.requires.0)

pub returns : goal.returns
returns c = hung_new _ _ _ c.slot_word.result c.lowest_free-t.result _ _ _ c.slot_word.ensures c.if-slot_word-ne0.false c.lowest_free-t.ensures (omega arith) c.put_slot.ensures c.put_mark.ensures
