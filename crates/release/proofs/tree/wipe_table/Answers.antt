-- `release::tree::wipe_table` meets its contract. Assumes nothing.
use mathlib.Core.Path.{refl}
use native.Mathlib.Omega.{arith}
use Rattle.release.proofs.FreeTreeLaws.{put_zero}
use Rattle.release.proofs.tree.wipe_table.Goals as goal

pub returns : goal.returns
returns c = (put_zero _ _ _ _ (omega arith) (omega arith) (c.fill.ensures.after (λ _ e. e)), refl)
