-- `strings::text::measure` meets its contract. The invariant: the string has been followed up to byte i, whose page is needed. Assumes nothing.
use native.Mathlib.Omega.{arith}
use Rattle.copies.proofs.PageReasons.{placed}
use Rattle.strings.proofs.TextCode.{fits, met, whole, again}
use Rattle.strings.proofs.text.measure.Goals as goal

pub overflow_add-a : goal.overflow_add-a
overflow_add-a c = omega (arith, fits _ _ _ _ _ c.loop-k.invariant (omega arith))

pub place-from-requires : goal.place-from-requires
place-from-requires c = placed _ _ _ c.requires c.in_ok-judge_page.ensures

pub returns-then-z-k : goal.returns-then-z-k
returns-then-z-k c =
    met _ _ _ _ c.requires _ c.loop-k.invariant c.in_ok-judge_page.ensures _ _ c.min-k.ensures (c.place-from.ensures _ _ _) _ c.first_zero-z.ensures c.if-z-k.true

pub returns-then-i-max : goal.returns-then-i-max
returns-then-i-max c =
    whole _ _ _ _ c.requires _ c.loop-k.invariant c.in_ok-judge_page.ensures _ _ c.min-k.ensures (c.place-from.ensures _ _ _) _ c.first_zero-z.ensures c.if-z-k.false c.if-i-max.true

pub loop-k-preserved : goal.loop-k-preserved
loop-k-preserved c =
    again _ _ _ _ c.requires _ c.loop-k.invariant c.in_ok-judge_page.ensures _ _ c.min-k.ensures (c.place-from.ensures _ _ _) _ c.first_zero-z.ensures c.if-z-k.false c.if-i-max.false
