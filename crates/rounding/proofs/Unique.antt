-- Two page ranges that cover the same bytes are equal. Assumes nothing.
use mathlib.Core.Path.{◌≡◌, sym, ap₂, ◌∙◌}
use Prim.Native.Nat.{ℕ}
use Rattle.rounding.specs.declared.PageRange.{PageRange}
use Rattle.rounding.specs.Range.{Covers}

pub one_range : (va size : ℕ) (a b : PageRange) → Covers va size a → Covers va size b → a ≡ b
one_range va size a b p q =
    ap₂ (λ (x y : ℕ). record { first = x; end = y }) (p.from ∙ sym q.from) (p.upto ∙ sym q.upto)
