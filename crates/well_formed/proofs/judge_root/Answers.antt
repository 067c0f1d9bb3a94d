-- `well_formed::judge_root` meets its contract. Assumes nothing.
use mathlib.Core.Path.{sym, ◌∙◌}
use Rattle.well_formed.proofs.RootReasons.{no_3, named}
use Rattle.well_formed.proofs.judge_root.Goals as goal

pub returns-then-mark_at-ne1 : goal.returns-then-mark_at-ne1
returns-then-mark_at-ne1 c = no_3 _ _ c.in_ok-judge_store.ensures (λ q. c.if-mark_at-ne1.true (c.mark_at.ensures.0 ∙ q))

pub returns : goal.returns
returns c = named _ _ c.in_ok-judge_store.ensures (sym c.mark_at.ensures.0 ∙ c.if-mark_at-ne1.false)
