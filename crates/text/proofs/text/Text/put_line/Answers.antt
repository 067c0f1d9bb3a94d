-- `text::text::Text::put_line` meets its contract. Assumes nothing.
use Rattle.text.specs.Text.{line_of}
use Rattle.text.proofs.Decimals.{line_short}
use Rattle.text.proofs.Writing.{wrote_then}
use Rattle.text.proofs.text.Text.put_line.Goals as goal

pub returns : goal.returns
unfolding line_of
returns c = record {
  wrote = wrote_then c.put.ensures (wrote_then c.put_number.ensures c.put_byte.ensures);
  short = line_short c.args.word.now c.args.n c.ranges.n.fits;
}
