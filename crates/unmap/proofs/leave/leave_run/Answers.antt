-- `unmap::leave::leave_run` meets its contract. The invariant: the slots before the index are done. Assumes nothing.
use mathlib.Core.Path.{◌≡◌, ◌∙◌}
use mathlib.Core.Bool.{cond}
use lib.ListN.{get_or}
use Rattle.unmap.specs.Leave.{given_back}
use Rattle.unmap.proofs.LeaveSlots.{run_start, run_next, run_done}
use Rattle.unmap.proofs.leave.leave_run.Goals.{then-freeing, else-freeing}
use Rattle.unmap.proofs.leave.leave_run.Goals as goal

pub loop-word-init : goal.loop-word-init
loop-word-init c = run_start _ _ _ _ _ c.requires

pub loop-word-preserved : goal.loop-word-preserved
loop-word-preserved c =
    let l = c.loop-word in
    let marks : c.if-freeing.fmarks ≡ cond c.args.freeing (given_back l.fmarks (get_or l.word-items l.word-index 0)) l.fmarks =
    elim c.if-freeing.branch [
      | then-freeing w ↦ rw w.if-freeing.true (w.fmarks-is ∙ w.give_back.ensures)
      | else-freeing w ↦ rw w.if-freeing.false w.fmarks-is
    ] in
    run_next _ _ _ _ _ c.requires _ _ _ l.invariant c.loop-word-test.true l.auto.word-items _ marks

pub returns : goal.returns
returns c = run_done _ _ _ _ _ c.requires _ _ _ c.loop-word.invariant c.loop-word-test.false
