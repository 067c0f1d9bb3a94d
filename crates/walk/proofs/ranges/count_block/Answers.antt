-- `walk::ranges::count_block` meets its contract. Assumes nothing.
use mathlib.Core.Path.{refl, sym}
use native.Mathlib.Omega.{arith}
use Rattle.walk.proofs.RangeLaws.{listed_part, block_low, block_words}
use Rattle.walk.proofs.ranges.count_block.Goals as goal

pub returns-then-e-lt1073741824 : goal.returns-then-e-lt1073741824
returns-then-e-lt1073741824 c =
    let p = c.requires in
    block_low _ _ _ _ _ _ c.args.bits.some p.0 c.if-e-lt1073741824.true

pub overflow_add-from-2 : goal.overflow_add-from-2
overflow_add-from-2 c = omega (arith, c.requires.1 c.if-e-lt1073741824.false)

pub returns : goal.returns
returns c =
    let a = c.args in
    let p = c.requires in
    let read = listed_part a.bits.mask a.bits.value a.words.now c.min-a.result c.min-b.result (omega arith) (omega arith) in
    block_words a.words.now a.e a.first a.end _ _ _ a.bits.mask a.bits.value _ c.args.bits.some p.0 (p.1 c.if-e-lt1073741824.false) c.if-e-lt1073741824.false refl c.min-a.ensures c.min-b.ensures
    (rw (sym c.count_bits.ensures) at read)
