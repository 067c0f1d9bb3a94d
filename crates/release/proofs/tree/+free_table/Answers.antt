-- `release::tree::free_table` meets its contract, the level falling at each call. Assumes nothing.
use mathlib.Core.Path.{refl, ap, sym, ◌∙◌}
use Prim.Native.Nat.{ℕ, ◌-◌}
use native.Mathlib.Omega.{arith}
use lib.Dec.{lit≤}
use Rattle.release.specs.FreeTree.{wipe, children, free_tree}
use Rattle.release.proofs.FreeTreeLaws.{then_wiped, free_lowest, free_higher, free_few, children_few, turn_one, turn_run}
use Rattle.release.proofs.tree.+free_table.Goals.{in-Some, in_default}
use Rattle.release.proofs.tree.+free_table.Goals as goal

pub returns-then-level-eq0 : goal.returns-then-level-eq0
returns-then-level-eq0 t c = let w = c.wipe_table in then_wiped _ _ _ 0 _ _ w.ensures.0 w.ensures.1 ∙ sym (free_lowest _ _ _ _ c.if-level-eq0.true)

pub loop-e-init : goal.loop-e-init
unfolding children
loop-e-init t c = (lit≤ tt, refl, refl, refl)

pub overflow_add-n : goal.overflow_add-n
overflow_add-n t c =
    let l = c.loop-e in
    omega (arith, children_few (c.args.level - 1) (omega arith) _ _ _ _ l.invariant.3, free_few (c.args.level - 1) (omega arith) _ _ _ c.free_table-n.ensures)

pub loop-e-preserved : goal.loop-e-preserved
loop-e-preserved t c =
    let l = c.loop-e in
    let r = c.run_of-run.ensures in
    elim c.match-child_of.branch [
      | in-Some w ↦ let k = w.free_table-n in let s = w.in-Some.ensures in rw (w.words-is, w.tmarks-is, w.n-is) (omega (arith, r.within), k.auto.words ∙ l.invariant.1, k.auto.tmarks ∙ l.invariant.2, turn_one _ _ _ _ _ _ _ _ l.invariant.3 _ r s.0 _ s.1 _ _ _ k.ensures)
      | in_default w ↦ rw (w.words-is, w.tmarks-is, w.n-is) (omega (arith, r.within), l.invariant.1, l.invariant.2, turn_run _ _ _ _ _ _ _ _ l.invariant.3 _ r w.in_default.ensures)
    ]

pub overflow_add-result : goal.overflow_add-result
overflow_add-result t c = omega (arith, children_few (c.args.level - 1) (omega arith) _ _ _ _ c.loop-e.invariant.3)

pub returns : goal.returns
returns t c =
    let a = c.args in
    let l = c.loop-e in
    let w = c.wipe_table-2 in
    then_wiped _ _ _ _ _ _ w.ensures.0 w.ensures.1
    ∙ ap (wipe a.t) (l.invariant.3 ∙ ap (λ (k : ℕ). children (free_tree (a.level - 1)) a.t a.words.now a.tmarks.now k) (omega arith))
    ∙ sym (free_higher _ _ _ _ c.if-level-eq0.false)
