-- `walk::missing::missing_tables` meets its contract. The invariant: the groups below `group` and their blocks are counted. Assumes nothing.
use mathlib.Core.Path.{sym}
use native.Mathlib.Omega.{arith}
use Rattle.walk.proofs.Groups.{counted_none, counted_few, counted_more, counted_all, missing_empty}
use Rattle.walk.proofs.missing.missing_tables.Goals as goal

pub returns-then-end-first : goal.returns-then-end-first
returns-then-end-first c = sym (missing_empty _ _ _ _ c.if-end-first.true)

pub loop-group-init : goal.loop-group-init
loop-group-init c = (omega arith, counted_none _ _ _ _ (omega arith))

pub loop-group-preserved : goal.loop-group-preserved
loop-group-preserved c =
    let a = c.args in
    let l = c.loop-group in
    (omega arith, counted_more a.words.now a.pages.root a.pages.first _ _ _ _ l.auto.group (omega arith) (omega arith) l.invariant.0 (omega arith) _ _ l.invariant.1 c.group_missing-n.ensures)

pub overflow_add-n : goal.overflow_add-n
overflow_add-n c =
    let a = c.args in
    let l = c.loop-group in
    record { fits = counted_few a.words.now a.pages.root a.pages.first _ _ _ _ l.auto.group (omega arith) (omega arith) l.invariant.0 (omega arith) _ _ l.invariant.1 c.group_missing-n.ensures (omega arith) }

pub returns : goal.returns
returns c =
    let a = c.args in
    let l = c.loop-group in
    counted_all a.words.now a.pages.root a.pages.first a.pages.end l.group _ c.if-end-first.false (omega arith) l.invariant.1
