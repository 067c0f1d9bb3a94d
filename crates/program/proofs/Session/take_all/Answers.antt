-- `Session::take_all` meets its contract. Assumes nothing.
use mathlib.Core.Path.{◌∙◌}
use native.Mathlib.Numerals.{add-one}
use lib.ListN.{get_or}
use lib.Seq.{take-suc}
use Rattle.program.proofs.Answering.{fed_more}
use Rattle.program.proofs.Session.take_all.Goals as goal

pub loop-b-preserved : goal.loop-b-preserved
loop-b-preserved g c =
    let a = c.args in
    let l = c.loop-b in
    let t = c.take_byte in
    let step = rw l.invariant.room at t.ensures.step in
    let fed = fed_more _ _ _ _ _ _ (get_or a.s.now l.b-index 0) _ _ l.invariant.fed step in
    record {
      same = t.ensures.same_reference ∙ l.invariant.same;
      room = t.ensures.room ∙ l.invariant.room;
      fed = rw (add-one l.b-index, take-suc a.s.now l.b-index 0 c.loop-b-test.true) fed;
    }
