-- `enter::enter::put_mark` meets its contract. Assumes nothing.
use mathlib.Core.Path.{sym}
use lib.Seq.{set_out}
use Rattle.enter.proofs.enter.put_mark.Goals as goal

pub returns-else-t-tmarks : goal.returns-else-t-tmarks
returns-else-t-tmarks c = sym (set_out c.args.tmarks.now _ _ c.if-t-tmarks.false)
