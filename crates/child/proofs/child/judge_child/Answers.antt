-- `child::child::judge_child` meets its contract. Assumes nothing.
use native.Mathlib.Omega.{arith}
use mathlib.Core.Path.{◌∙◌}
use Rattle.child.proofs.ChildPages.{no_11, no_14, no_15, by_fresh}
use Rattle.child.proofs.ChildReasons.{no_3, no_4, no_6, no_7, at_page, by_pages}
use Rattle.child.proofs.child.judge_child.Goals as goal

pub returns-then-mark_at-ne1 : goal.returns-then-mark_at-ne1
returns-then-mark_at-ne1 c = no_3 _ _ _ _ c.in_ok-judge_root.ensures (λ e. c.if-mark_at-ne1.true (c.mark_at.ensures.0 ∙ e))

pub returns-then-child-parent : goal.returns-then-child-parent
returns-then-child-parent c = no_4 _ _ _ _ c.in_ok-judge_root.ensures (cc) c.if-child-parent.true

pub returns-then-size-gt-MAXVA : goal.returns-then-size-gt-MAXVA
returns-then-size-gt-MAXVA c = no_6 _ _ _ _ c.in_ok-judge_root.ensures (cc) c.if-child-parent.false c.if-size-gt-MAXVA.true

pub returns-then-size-ne0 : goal.returns-then-size-ne0
returns-then-size-ne0 c = no_7 _ _ _ _ c.in_ok-judge_root.ensures (cc) c.if-child-parent.false c.if-size-gt-MAXVA.false c.if-size-ne0.true

pub returns-then-count_pages-n : goal.returns-then-count_pages-n
returns-then-count_pages-n c =
    let r = c.in_ok-judge_root.ensures in
    at_page _ _ _ _ r (cc) c.if-child-parent.false c.if-size-gt-MAXVA.false c.if-size-ne0.false _ (no_11 _ _ _ _ r (omega arith) _ c.count_pages.ensures c.if-count_pages-n.true)

pub returns-then-count_pages-ne0 : goal.returns-then-count_pages-ne0
returns-then-count_pages-ne0 c =
    let r = c.in_ok-judge_root.ensures in
    at_page _ _ _ _ r (cc) c.if-child-parent.false c.if-size-gt-MAXVA.false c.if-size-ne0.false _
    (no_14 _ _ _ _ r (omega arith) _ c.count_pages.ensures c.if-count_pages-n.false _ c.count_pages-2.ensures c.if-count_pages-ne0.true)

pub returns-then-count_pages-n-2 : goal.returns-then-count_pages-n-2
returns-then-count_pages-n-2 c =
    let r = c.in_ok-judge_root.ensures in
    at_page _ _ _ _ r (cc) c.if-child-parent.false c.if-size-gt-MAXVA.false c.if-size-ne0.false _
    (no_15 _ _ _ _ r (omega arith) _ c.count_pages.ensures c.if-count_pages-n.false _ c.count_pages-2.ensures c.if-count_pages-ne0.false _ c.count_pages-3.ensures c.if-count_pages-n-2.true)

pub returns : goal.returns
returns c =
    let r = c.in_ok-judge_root.ensures in
    by_pages _ _ _ _ r (cc) c.if-child-parent.false c.if-size-gt-MAXVA.false c.if-size-ne0.false _
    (by_fresh _ _ _ _ r (omega arith) _ c.count_pages.ensures c.if-count_pages-n.false _ c.count_pages-2.ensures c.if-count_pages-ne0.false _ c.count_pages-3.ensures c.if-count_pages-n-2.false _ c.judge_fresh.ensures)
