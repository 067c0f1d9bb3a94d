-- `unmap::judge::judge_leave` meets its contract. Assumes nothing.
use Rattle.store.proofs.Tests.{yes, no}
use Rattle.unmap.proofs.LeaveReasons.{no_10, no_11, no_13, all_ready}
use Rattle.unmap.proofs.judge.judge_leave.Goals as goal

pub returns-then-meets_pool : goal.returns-then-meets_pool
returns-then-meets_pool c =
    let p = c.args.pages in
    no_10 _ _ _ _ c.requires p.in_order p.within _ (yes _ c.if-meets_pool.true c.meets_pool.ensures)

pub returns-then-count_pages-pages : goal.returns-then-count_pages-pages
returns-then-count_pages-pages c =
    let p = c.args.pages in
    no_11 _ _ _ _ c.requires p.in_order p.within _ (no _ c.if-meets_pool.false c.meets_pool.ensures) _ c.count_pages.ensures c.if-count_pages-pages.true

pub returns-then-count_pages-ne0 : goal.returns-then-count_pages-ne0
returns-then-count_pages-ne0 c =
    let p = c.args.pages in
    no_13 _ _ _ _ c.requires p.in_order p.within _ (no _ c.if-meets_pool.false c.meets_pool.ensures) _ c.count_pages.ensures c.if-count_pages-pages.false _ c.count_pages-2.ensures c.if-count_pages-ne0.true

pub returns : goal.returns
returns c =
    let p = c.args.pages in
    all_ready _ _ _ _ c.requires p.in_order p.within _ (no _ c.if-meets_pool.false c.meets_pool.ensures) _ c.count_pages.ensures c.if-count_pages-pages.false _ c.count_pages-2.ensures c.if-count_pages-ne0.false
