-- The or of the words, and of their flags, with one word more. Assumes nothing.
use mathlib.Core.Path.{◌≡◌, ap, ◌∙◌}
use mathlib.Core.List.{List}
use Prim.Native.Nat.{ℕ, ◌+◌, ◌/◌, ◌%◌, ◌^◌, ◌≤◌, ◌<◌}
use native.Mathlib.Nat.{le_refl}
use native.Mathlib.Omega.{arith}
use lib.Bits.{bit_or, or_add_and, and_le_l, and_le_r, or_mod, or_shr, or_lt}
use Rattle.address.specs.Field.{bit}
use Rattle.store.specs.Store.{word}
use Rattle.well_formed.specs.Scan.{Zeros, OrOf, OddOrZero, FlagOf, FlagsOf}
use Rattle.well_formed.proofs.Parts.{each_part, each_more}

-- an or is above both sides, and has their bits
module _ (x y : ℕ) where
  or_above : (x ≤ bit_or x y) × (y ≤ bit_or x y)
  or_above = (omega (arith, or_add_and x y, and_le_r x y), omega (arith, or_add_and x y, and_le_l x y))

  or_bit : (j : ℕ) → bit j (bit_or x y) ≡ bit_or (bit j x) (bit j y)
  or_bit j = ap (λ (n : ℕ). n % 2) (or_shr x y j) ∙ or_mod (x / 2 ^ j) (y / 2 ^ j) 1

-- a bit that an or has not, neither side has
or_clear : (j x y : ℕ) → bit j (bit_or x y) ≡ 0 → (bit j x ≡ 0) × (bit j y ≡ 0)
or_clear j x y e = (omega (arith, or_bit x y j, (or_above (bit j x) (bit j y)).0), omega (arith, or_bit x y j, (or_above (bit j x) (bit j y)).1))

module _ (ws : List ℕ) (a : ℕ) where
  pub or_more : (i r : ℕ) → a ≤ i → OrOf ws a i r → OrOf ws a (i + 1) (bit_or r (word ws i))
  or_more i r l o =
      record {
        above = each_more (λ (k : ℕ). word ws k ≤ bit_or r (word ws i)) a i (λ k h m. omega (arith, o.above k h m, (or_above r (word ws i)).0)) (or_above r (word ws i)).1;
        bits = λ j z. let c = or_clear j r (word ws i) z in each_more (λ (k : ℕ). bit j (word ws k) ≡ 0) a i (o.bits j c.0) c.1;
        within = λ j z. or_lt j r (word ws i) (o.within j (each_part (λ (k : ℕ). word ws k < 2 ^ j) a a i (i + 1) (le_refl a) (omega arith) z)) (z i l (omega arith));
      }

  pub or_zero : (e r : ℕ) → OrOf ws a e r → Zeros ws a e → r ≡ 0
  or_zero e r o z = omega (arith, o.within 0 (λ k h m. omega (arith, z k h m)))

  pub flags_more : (i r f : ℕ) → a ≤ i → FlagsOf ws a i r → FlagOf (word ws i) f → FlagsOf ws a (i + 1) (bit_or r f)
  flags_more i r f l p q =
      record {
        odd = λ h. each_more (λ (k : ℕ). OddOrZero (word ws k)) a i (p.odd (omega (arith, or_mod r f 1, (or_above (r % 2) (f % 2)).0))) (q.odd (omega (arith, or_mod r f 1, (or_above (r % 2) (f % 2)).1)));
        even = λ z. omega (arith, or_mod r f 1, or_add_and (r % 2) (f % 2), p.even (each_part (λ (k : ℕ). OddOrZero (word ws k)) a a i (i + 1) (le_refl a) (omega arith) z), q.even (z i l (omega arith)));
      }
