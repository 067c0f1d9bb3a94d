-- `enter::enter::put_slot` meets its contract. Assumes nothing.
use Rattle.enter.proofs.Slots.{put_low, put_in, put_past}
use Rattle.enter.proofs.enter.put_slot.Goals as goal

pub returns-then-m-lt2 : goal.returns-then-m-lt2
returns-then-m-lt2 c = put_low c.args.words.now _ _ c.if-m-lt2.true

pub returns-then-w-words : goal.returns-then-w-words
returns-then-w-words c = put_in c.args.words.now _ _ c.if-m-lt2.false

pub returns-else-w-words : goal.returns-else-w-words
returns-else-w-words c = put_past c.args.words.now _ _ c.if-m-lt2.false c.if-w-words.false
