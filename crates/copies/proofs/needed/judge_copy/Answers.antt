-- `copies::needed::judge_copy` meets its contract. Assumes nothing.
use Rattle.copies.proofs.CopyReasons.{no_6, no_6_end, no_11, no_12, no_15, all_ready}
use Rattle.copies.proofs.needed.judge_copy.Goals as goal

pub returns-then-va-ge-MAXVA : goal.returns-then-va-ge-MAXVA
returns-then-va-ge-MAXVA c = no_6 _ _ _ _ c.in_ok-judge_root.ensures c.if-va-ge-MAXVA.true

pub returns-then-n-va : goal.returns-then-n-va
returns-then-n-va c = no_6_end _ _ _ _ c.in_ok-judge_root.ensures c.if-va-ge-MAXVA.false c.if-n-va.true

pub returns-then-count_pages-end : goal.returns-then-count_pages-end
returns-then-count_pages-end c =
    no_11 _ _ _ _ c.in_ok-judge_root.ensures c.if-va-ge-MAXVA.false c.if-n-va.false _ c.pages_end-end.ensures _ c.count_pages.ensures c.if-count_pages-end.true

pub returns-then-count_pages-end-2 : goal.returns-then-count_pages-end-2
returns-then-count_pages-end-2 c =
    no_12 _ _ _ _ c.in_ok-judge_root.ensures c.if-va-ge-MAXVA.false c.if-n-va.false _ c.pages_end-end.ensures _ c.count_pages.ensures c.if-count_pages-end.false _ c.count_pages-2.ensures c.if-count_pages-end-2.true

pub returns-then-count_pages-end-3 : goal.returns-then-count_pages-end-3
returns-then-count_pages-end-3 c =
    no_15 _ _ _ _ c.in_ok-judge_root.ensures c.if-va-ge-MAXVA.false c.if-n-va.false _ c.pages_end-end.ensures _ c.count_pages.ensures c.if-count_pages-end.false _ c.count_pages-2.ensures c.if-count_pages-end-2.false _ c.count_pages-3.ensures c.if-count_pages-end-3.true

pub returns : goal.returns
returns c =
    all_ready _ _ _ _ c.in_ok-judge_root.ensures c.if-va-ge-MAXVA.false c.if-n-va.false _ c.pages_end-end.ensures _ c.count_pages.ensures c.if-count_pages-end.false _ c.count_pages-2.ensures c.if-count_pages-end-2.false _ c.count_pages-3.ensures c.if-count_pages-end-3.false
