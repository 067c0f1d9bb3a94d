-- `strings::text::copy_in_str` meets its contract. Assumes nothing.
use lib.Seq.{length-take-le}
use mathlib.Core.Path.{sym}
use Rattle.strings.proofs.TextLaws.{within, may_read, done}
use Rattle.strings.proofs.text.copy_in_str.Goals as goal

pub slice_bounds-read_bytes-end : goal.slice_bounds-read_bytes-end
slice_bounds-read_bytes-end c = within _ _ _ _ _ _ c.in_ok-read.ensures

pub slice_bounds-read_bytes-end-2 : goal.slice_bounds-read_bytes-end-2
slice_bounds-read_bytes-end-2 c = sym (length-take-le _ c.args.dst.now (within _ _ _ _ _ _ c.in_ok-read.ensures))

pub read_bytes-requires : goal.read_bytes-requires
read_bytes-requires c = may_read _ _ _ _ _ _ c.in_ok-read.ensures c.in_ok-judge_root.ensures

pub returns : goal.returns
returns c = done _ _ _ _ _ _ c.in_ok-read.ensures _ c.read_bytes.ensures
