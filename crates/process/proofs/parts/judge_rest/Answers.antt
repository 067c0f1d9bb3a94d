-- `process::parts::judge_rest` meets its contract. Assumes nothing.
use Rattle.std.proofs.lemmas.Result.{err_from_is_err_and}
use Rattle.process.proofs.RestLaws.{size_refused, page_missing, pages_refused, tree_refused, none_refused}
use Rattle.store.specs.Store.{seen}
use Rattle.process.proofs.parts.judge_rest.Goals as goal

pub returns-then-size-gt-MAXVA : goal.returns-then-size-gt-MAXVA
returns-then-size-gt-MAXVA c =
    let a = c.args in
    size_refused (seen a.store.now) a.root a.size a.top c.requires.1 c.if-size-gt-MAXVA.true

pub returns-then-n-top : goal.returns-then-n-top
returns-then-n-top c =
    let a = c.args in
    page_missing (seen a.store.now) a.root a.size a.top c.requires.1 c.if-size-gt-MAXVA.false _ c.pages_to-n.ensures c.if-n-top.true

pub returns-in_err-judge_leave : goal.returns-in_err-judge_leave
returns-in_err-judge_leave c =
    let a = c.args in
    let p = err_from_is_err_and c.from_residual.result c.from_residual.ensures.1 in rw (p.1, p.2)
    (pages_refused (seen a.store.now) a.root a.size a.top c.requires.1 c.if-size-gt-MAXVA.false _ c.pages_to-n.ensures c.if-n-top.false _ c.in_err-judge_leave.ensures)

pub returns-then-count_pages-ne0 : goal.returns-then-count_pages-ne0
returns-then-count_pages-ne0 c =
    let a = c.args in
    tree_refused (seen a.store.now) a.root a.size a.top c.requires.1 c.if-size-gt-MAXVA.false _ c.pages_to-n.ensures c.if-n-top.false c.in_ok-judge_leave.ensures _ c.count_pages.ensures c.if-count_pages-ne0.true

pub returns : goal.returns
returns c =
    let a = c.args in
    none_refused (seen a.store.now) a.root a.size a.top c.requires.1 c.if-size-gt-MAXVA.false _ c.pages_to-n.ensures c.if-n-top.false c.in_ok-judge_leave.ensures _ c.count_pages.ensures c.if-count_pages-ne0.false
