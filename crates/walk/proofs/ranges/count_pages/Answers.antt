-- `walk::ranges::count_pages` meets its contract. The invariant: the pages before `page` are counted. Assumes nothing.
use native.Mathlib.Omega.{arith}
use borrow.Author.Rules.{rules}
use Rattle.well_formed.proofs.Parts.{over_none, over_done}
use Rattle.walk.specs.Missing.{entry_in}
use Rattle.walk.specs.Ranges.{page_under}
use Rattle.walk.proofs.RangeLaws.{over_next, page_in_group}
use Rattle.walk.proofs.ranges.count_pages.Goals as goal

pub loop-page-init : goal.loop-page-init
loop-page-init c = (search rules, search rules, over_none _ _)

pub overflow_add-page : goal.overflow_add-page
overflow_add-page c = omega (arith, c.run_of.ensures.within)

pub overflow_mul-page : goal.overflow_mul-page
overflow_mul-page c = omega (arith, c.run_of.ensures.within)

pub overflow_add-n : goal.overflow_add-n
overflow_add-n c = omega (arith, c.count_group-n.ensures.few, c.loop-page.invariant.2.few)

pub loop-page-smaller : goal.loop-page-smaller
loop-page-smaller c = omega (arith, c.min-next.ensures, c.run_of.ensures.some, c.loop-page-test.true)

pub loop-page-preserved : goal.loop-page-preserved
loop-page-preserved c =
    let a = c.args in
    let l = c.loop-page.invariant in
    let top = c.slot_word-top in
    let run = c.run_of in (
      search rules,
      search rules,
      over_next (page_under a.words.now top.result) (entry_in a.words.now a.pages.root 2) a.bits.mask a.bits.value a.pages.first _ _ _ _ l.0 (omega (arith, run.ensures.some))
          (page_in_group a.words.now a.pages.root _ _ _ _ run.ensures top.ensures (omega arith)) l.2 c.count_group-n.ensures,
    )

pub returns : goal.returns
returns c =
    let l = c.loop-page.invariant in
    over_done _ _ _ _ _ l.1 c.loop-page-test.false l.2
