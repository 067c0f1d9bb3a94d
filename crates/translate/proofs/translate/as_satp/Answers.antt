-- `translate::translate::as_satp` meets its contract. Assumes nothing.
use mathlib.Core.Path.{refl}
use Rattle.well_formed.proofs.RootReasons.{root_clear}
use Rattle.translate.proofs.translate.as_satp.Goals as goal

pub returns : goal.returns
returns c = (root_clear _ _ c.in_ok-judge_root.ensures, (refl, refl))
