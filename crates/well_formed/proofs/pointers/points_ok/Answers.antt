-- `well_formed::pointers::points_ok` meets its contract. Assumes nothing.
use Rattle.std.proofs.Common.{rules, ◌≡◌, ◌+◌, MatchOption, false, eqb}
use Rattle.store.specs.Store.{mark}
use Rattle.well_formed.proofs.PointerLaws.{points_says}
use Rattle.well_formed.proofs.pointers.points_ok.Goals as goal

pub returns-else-x-eq0 : goal.returns-else-x-eq0
returns-else-x-eq0 c =
    let a = c.args in
    let m : MatchOption c.pointed_table.result (c.is_some_and.result ≡ false) (λ t. c.is_some_and.result ≡ eqb (mark a.tmarks.now t) (a.w + 2)) = search rules in
    points_says a.words.now a.tmarks.now a.w c.if-x-eq0.false _ c.pointed_table.ensures _ m
