-- `fresh::fresh::judge_fresh` meets its contract. Assumes nothing.
use Rattle.fresh.proofs.FreshReasons.{no_14, no_16, no_17, all_ready}
use Rattle.fresh.proofs.fresh.judge_fresh.Goals as goal

pub returns-then-count_pages-ne0 : goal.returns-then-count_pages-ne0
returns-then-count_pages-ne0 c = no_14 _ _ _ _ c.args.pages.in_order _ c.count_pages.ensures c.if-count_pages-ne0.true

pub returns-then-not-enough_free : goal.returns-then-not-enough_free
returns-then-not-enough_free c = no_16 _ _ _ _ c.args.pages.in_order _ c.count_pages.ensures c.if-count_pages-ne0.false c.if-not-enough_free.ensures

pub returns-then-not-enough_free-2 : goal.returns-then-not-enough_free-2
returns-then-not-enough_free-2 c =
    no_17 _ _ _ _ c.args.pages.in_order _ c.count_pages.ensures c.if-count_pages-ne0.false c.if-not-enough_free.ensures _ c.missing_tables.ensures c.if-not-enough_free-2.ensures

pub returns : goal.returns
returns c =
    all_ready _ _ _ _ c.args.pages.in_order _ c.count_pages.ensures c.if-count_pages-ne0.false c.if-not-enough_free.ensures _ c.missing_tables.ensures c.if-not-enough_free-2.ensures
