-- `child::child::copy_frame` meets its contract. The invariant: the first i bytes have gone over. Assumes nothing.
use borrow.Author.Rules.{rules}
use mathlib.Core.Path.{◌∙◌}
use Rattle.child.proofs.FrameCopy.{copy_more, copied}
use Rattle.child.proofs.child.copy_frame.Goals as goal

pub loop-i-preserved : goal.loop-i-preserved
loop-i-preserved c = copy_more _ _ _ c.requires.0 c.requires.1 _ c.loop-i-test.true _ c.loop-i.invariant

pub returns : goal.returns
returns c = c.loop-i.invariant ∙ copied _ _ _ c.requires.0 c.requires.1 _ c.loop-i-test.false (search rules)
