-- `unmap::judge::judge_unmap` meets its contract. Assumes nothing.
use native.Mathlib.Omega.{arith}
use Rattle.store.proofs.Tests.{yes, no}
use Rattle.unmap.proofs.UnmapReasons.{no_6, no_7, in_reach, by_range}
use Rattle.unmap.proofs.judge.judge_unmap.Goals as goal

pub returns-then-too_high : goal.returns-then-too_high
returns-then-too_high c = no_6 _ _ _ _ _ c.in_ok-judge_root.ensures (yes _ c.if-too_high.true c.too_high.ensures)

pub returns-then-va-ne0 : goal.returns-then-va-ne0
returns-then-va-ne0 c = no_7 _ _ _ _ _ c.in_ok-judge_root.ensures (no _ c.if-too_high.false c.too_high.ensures) c.if-va-ne0.true

pub overflow_add-pages : goal.overflow_add-pages
overflow_add-pages c = omega (arith, (in_reach _ _ _ _ c.in_ok-judge_root.ensures (no _ c.if-too_high.false c.too_high.ensures) c.if-n-eq0.false).2)

pub invariant_of-pages : goal.invariant_of-pages
invariant_of-pages c =
    let p = in_reach _ _ _ _ c.in_ok-judge_root.ensures (no _ c.if-too_high.false c.too_high.ensures) c.if-n-eq0.false in
    record { of_a_table = p.0; in_order = p.1; within = p.2 }

pub returns : goal.returns
returns c = by_range _ _ _ _ _ c.in_ok-judge_root.ensures (no _ c.if-too_high.false c.too_high.ensures) c.if-va-ne0.false _ c.judge_leave.ensures
