-- `well_formed::check` meets its contract. Assumes nothing.
use mathlib.Core.Path.{refl}
use mathlib.Core.Logic.{inl, inr}
use Rattle.store.proofs.Tests.{no, yes}
use Rattle.well_formed.proofs.Verdict.{no_1, clear}
use Rattle.well_formed.proofs.check.Goals as goal

pub returns-then-not-sized : goal.returns-then-not-sized
returns-then-not-sized c = (no_1 _ (no c.sized.result c.if-not-sized.true c.sized.ensures), refl)

pub formed-requires : goal.formed-requires
formed-requires c = yes c.sized.result c.if-not-sized.false c.sized.ensures

pub returns-then-not-formed : goal.returns-then-not-formed
returns-then-not-formed c = (clear _ (yes c.sized.result c.if-not-sized.false c.sized.ensures), (inr (refl, no c.formed.result c.if-not-formed.true c.formed.ensures), refl))

pub returns : goal.returns
returns c = (clear _ (yes c.sized.result c.if-not-sized.false c.sized.ensures), (inl (refl, yes c.formed.result c.if-not-formed.false c.formed.ensures), refl))
