-- `map::mapping::map` meets its contract. Assumes nothing.
use mathlib.Core.Path.{refl}
use Rattle.address.specs.Answer.{said}
use Rattle.map.proofs.MapLaws.{done_none, never, can_enter, done}
use Rattle.map.proofs.mapping.map.Goals as goal

pub returns-then-end-first : goal.returns-then-end-first
returns-then-end-first c =
    let p = c.page_range-range.ensures in
    done_none _ _ _ _ _ _ c.in_ok-judge_map.ensures _ _ p.from p.upto c.if-end-first.true

pub enter_pages-requires : goal.enter_pages-requires
unfolding said
enter_pages-requires c =
    let p = c.page_range-range.ensures in
    can_enter _ _ _ _ _ _ c.in_ok-judge_map.ensures _ _ p.from p.upto c.if-end-first.false _ _ c.in_ok-e.ensures refl

pub returns-in_err-e : goal.returns-in_err-e
unfolding said
returns-in_err-e c =
    let p = c.page_range-range.ensures in
    absurd (never _ _ _ _ _ _ c.in_ok-judge_map.ensures _ _ p.from p.upto c.if-end-first.false _ _ c.in_err-e.ensures refl)

pub returns : goal.returns
unfolding said
returns c =
    let p = c.page_range-range.ensures in
    done _ _ _ _ _ _ c.in_ok-judge_map.ensures _ _ p.from p.upto c.if-end-first.false _ _ c.in_ok-e.ensures refl _ _ c.missing_tables-taken.ensures c.enter_pages.ensures
