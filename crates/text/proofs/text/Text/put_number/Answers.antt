-- `text::text::Text::put_number` meets its contract. Assumes nothing.
use Rattle.text.proofs.Decimals.{decimal_is}
use Rattle.text.proofs.text.Text.put_number.Goals as goal

pub returns : goal.returns
returns c = rw (← decimal_is c.decimal-count.result _ c.decimal-count.ensures.len, ← c.decimal-count.ensures.digits) c.put.ensures
