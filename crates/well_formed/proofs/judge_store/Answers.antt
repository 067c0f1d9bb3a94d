-- `well_formed::judge_store` meets its contract. Assumes nothing.
use mathlib.Core.Path.{refl}
use mathlib.Core.Logic.{inl, inr}
use Rattle.store.proofs.Tests.{no, yes}
use Rattle.well_formed.proofs.judge_store.Goals as goal

pub returns-then-not-sized : goal.returns-then-not-sized
returns-then-not-sized c = inl (refl, no c.sized.result c.if-not-sized.true c.sized.ensures)

pub formed-requires : goal.formed-requires
formed-requires c = yes c.sized.result c.if-not-sized.false c.sized.ensures

pub returns-then-not-formed : goal.returns-then-not-formed
returns-then-not-formed c = inr (refl, yes c.sized.result c.if-not-sized.false c.sized.ensures, no c.formed.result c.if-not-formed.true c.formed.ensures)

pub returns : goal.returns
returns c = (yes c.sized.result c.if-not-sized.false c.sized.ensures, yes c.formed.result c.if-not-formed.false c.formed.ensures)
