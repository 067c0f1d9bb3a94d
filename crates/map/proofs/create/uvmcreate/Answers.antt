-- `map::create::uvmcreate` meets its contract. Assumes nothing.
use mathlib.Core.Path.{refl}
use Rattle.map.proofs.CreateLaws.{no_17, clear}
use Rattle.map.proofs.create.uvmcreate.Goals as goal

pub returns-then-not-enough_free : goal.returns-then-not-enough_free
returns-then-not-enough_free c = let g = c.in_ok-judge_store.ensures in (no_17 _ g.0 g.1 c.if-not-enough_free.ensures, refl)

pub returns : goal.returns
returns c =
    let g = c.in_ok-judge_store.ensures in
    let low = c.lowest_free-t.ensures in
    (clear _ g.0 g.1 c.if-not-enough_free.ensures, (low, rw (c.put_mark.ensures, low) refl))
