-- `walk::ranges::count_group` meets its contract. The invariant: the pages before `page` are counted. Assumes nothing.
use native.Mathlib.Nat.{le_trans}
use native.Mathlib.Omega.{arith}
use borrow.Author.Rules.{rules}
use Rattle.well_formed.proofs.Parts.{over_none, over_done}
use Rattle.walk.specs.Missing.{entry_under}
use Rattle.walk.specs.Ranges.{page_under}
use Rattle.walk.proofs.RangeLaws.{group_low, over_next, run_one, next_block, few_pages, page_in_block}
use Rattle.walk.proofs.ranges.count_group.Goals as goal

pub returns-then-top-eq0 : goal.returns-then-top-eq0
returns-then-top-eq0 c =
    let p = c.requires in
    group_low _ _ _ _ _ _ c.args.bits.some p.0 c.if-top-eq0.true

pub loop-page-init : goal.loop-page-init
loop-page-init c = (search rules, search rules, over_none _ _)

pub overflow_add-page : goal.overflow_add-page
overflow_add-page c = omega (arith, c.run_of.ensures.within)

pub overflow_mul-page : goal.overflow_mul-page
overflow_mul-page c = omega (arith, c.run_of.ensures.within)

pub count_block-n-requires : goal.count_block-n-requires
count_block-n-requires c =
    let a = c.args in
    let run = c.run_of.ensures in
    let next = next_block c.loop-page.page a.end _ _ c.loop-page-test.true run.some c.min-next.ensures in
    (next.0, λ h. omega (arith, next.2, run_one a.words.now _ _ run (omega (arith, c.slot_word-e.ensures))))

pub overflow_add-n : goal.overflow_add-n
overflow_add-n c =
    let a = c.args in
    let l = c.loop-page.invariant in
    let next = next_block c.loop-page.page a.end _ _ c.loop-page-test.true c.run_of.ensures.some c.min-next.ensures in
    record { fits = few_pages a.first c.loop-page.page _ a.end _ _ l.0 next.0 next.1 c.requires.1 l.2.few c.count_block-n.ensures.few }

pub loop-page-smaller : goal.loop-page-smaller
loop-page-smaller c = omega (arith, c.min-next.ensures, c.run_of.ensures.some, c.loop-page-test.true)

pub loop-page-preserved : goal.loop-page-preserved
loop-page-preserved c =
    let a = c.args in
    let l = c.loop-page.invariant in
    let e = c.slot_word-e in
    let run = c.run_of.ensures in
    let next = next_block c.loop-page.page a.end _ _ c.loop-page-test.true run.some c.min-next.ensures in (
      le_trans l.0 next.0,
      next.1,
      over_next (entry_under a.words.now e.result) (page_under a.words.now a.top) a.bits.mask a.bits.value a.first _ _ _ _ l.0 next.0
          (page_in_block a.words.now a.top _ _ _ _ _ c.slot_in-m.ensures run e.ensures next.2) l.2 c.count_block-n.ensures,
    )

pub returns : goal.returns
returns c =
    let l = c.loop-page.invariant in
    over_done _ _ _ _ _ l.1 c.loop-page-test.false l.2
