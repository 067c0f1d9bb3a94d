-- `map::judge::judge_map` meets its contract. Assumes nothing.
use Rattle.map.proofs.ReasonLaws.{nothing, no_14, no_17, all_ready}
use Rattle.map.proofs.judge.judge_map.Goals as goal

pub returns-then-end-first : goal.returns-then-end-first
returns-then-end-first c =
    let p = c.page_range-range.ensures in
    nothing _ _ _ _ _ _ c.in_ok-judge_root.ensures c.in_ok-judge_numbers.ensures _ _ p.from p.upto c.if-end-first.true

pub returns-then-count_pages-ne0 : goal.returns-then-count_pages-ne0
returns-then-count_pages-ne0 c =
    let p = c.page_range-range.ensures in
    no_14 _ _ _ _ _ _ c.in_ok-judge_root.ensures c.in_ok-judge_numbers.ensures _ _ p.from p.upto c.if-end-first.false _ c.count_pages.ensures c.if-count_pages-ne0.true

pub returns-then-not-enough_free : goal.returns-then-not-enough_free
returns-then-not-enough_free c =
    let p = c.page_range-range.ensures in
    no_17 _ _ _ _ _ _ c.in_ok-judge_root.ensures c.in_ok-judge_numbers.ensures _ _ p.from p.upto c.if-end-first.false _ c.count_pages.ensures c.if-count_pages-ne0.false
    _ c.missing_tables.ensures c.if-not-enough_free.ensures

pub returns : goal.returns
returns c =
    let p = c.page_range-range.ensures in
    all_ready _ _ _ _ _ _ c.in_ok-judge_root.ensures c.in_ok-judge_numbers.ensures _ _ p.from p.upto c.if-end-first.false _ c.count_pages.ensures c.if-count_pages-ne0.false
    _ c.missing_tables.ensures c.if-not-enough_free.ensures
