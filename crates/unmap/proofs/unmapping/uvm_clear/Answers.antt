-- `unmap::unmapping::uvm_clear` meets its contract. Assumes nothing.
use Rattle.unmap.proofs.ClearLaws.{no_6, no_11, done}
use Rattle.unmap.proofs.unmapping.uvm_clear.Goals as goal

pub returns-then-va-ge-MAXVA : goal.returns-then-va-ge-MAXVA
returns-then-va-ge-MAXVA c = no_6 _ _ _ c.in_ok-judge_root.ensures c.if-va-ge-MAXVA.true

pub returns-then-m-lt2 : goal.returns-then-m-lt2
returns-then-m-lt2 c = no_11 _ _ _ c.in_ok-judge_root.ensures c.if-va-ge-MAXVA.false _ c.slot_of-m.ensures c.if-m-lt2.true

pub returns : goal.returns
returns c =
    done _ _ _ c.in_ok-judge_root.ensures c.if-va-ge-MAXVA.false _ c.slot_of-m.ensures c.if-m-lt2.false _ _ _ c.slot_word.ensures c.rm_user_bit-e.ensures.whole c.put_slot.ensures
