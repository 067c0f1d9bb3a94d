-- `shrink::sizes::judge_sizes` meets its contract. Assumes nothing.
use mathlib.Core.Logic.{inl, inr, ⊎_elim}
use Rattle.shrink.proofs.SizeReasons.{no_6}
use Rattle.shrink.proofs.sizes.judge_sizes.Goals as goal

pub returns-then-old-gt-MAXVA : goal.returns-then-old-gt-MAXVA
returns-then-old-gt-MAXVA c = no_6 _ _ _ _ c.in_ok-judge_root.ensures (⊎_elim inl (λ h. inr h.1) c.then-old-gt-MAXVA.either)
