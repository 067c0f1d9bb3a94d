-- `copies::bytes::place` meets its contract. Assumes nothing.
use Rattle.copies.proofs.PageReasons.{place_is}
use Rattle.copies.proofs.bytes.place.Goals as goal

pub returns : goal.returns
returns c = place_is _ _ _ _ _ c.slot_of.ensures c.slot_word-e.ensures
