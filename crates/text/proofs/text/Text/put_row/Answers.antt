-- `text::text::Text::put_row` meets its contract. Assumes nothing.
use Rattle.text.specs.Text.{row_text}
use Rattle.text.proofs.Decimals.{row_short}
use Rattle.text.proofs.Writing.{wrote_then}
use Rattle.text.proofs.text.Text.put_row.Goals as goal

pub returns : goal.returns
unfolding row_text
returns c = record {
  wrote = wrote_then c.put_number.ensures
      (wrote_then c.put_byte.ensures
      (wrote_then c.put_number-2.ensures
      (wrote_then c.put_byte-2.ensures
      (wrote_then c.put_number-3.ensures c.put_byte-3.ensures))));
  short = row_short _ _ _ c.requires.level_bound.0 c.requires.level_bound.1 c.ranges.word.fits;
}
