-- Masks and shifts on an address, in plain arithmetic. Assumes nothing.
use mathlib.Core.Path.{◌≡◌, refl, sym, ap, ◌∙◌}
use Prim.Native.Nat.{ℕ, zero, suc, ◌+◌, ◌-◌, ◌*◌, ◌/◌, ◌%◌, ◌^◌, ◌<◌}
use native.Mathlib.Nat.{pow-suc, suc-mul, mul_comm}
use native.Mathlib.Omega.{arith}
use lib.Bits.{bit_and, and_high, and_mask}
use lib.Pow.{pow-add, shr-shr}
use Rattle.address.specs.Page.{down, index}

-- `a & !4095`
pub down_mask : (a : ℕ) → a < 2 ^ 64 → bit_and a (2 ^ 64 - 4096) ≡ down a
down_mask a h = omega (arith, and_high a 52 12)

-- nine bits more for each level
levels : (level : ℕ) → 2 ^ (level * 9) ≡ 512 ^ level
levels zero = refl
levels (suc l) = ap (λ (n : ℕ). 2 ^ n) (suc-mul l 9) ∙ pow-add 2 (l * 9) 9 ∙ ap (λ (n : ℕ). n * 512) (levels l) ∙ sym (pow-suc 512 l)

-- the index as a quotient: of the page number by 512 for each level
pub index_quotient : (level va : ℕ) → index level va ≡ va / 4096 / 512 ^ level % 512
index_quotient level va = rw (mul_comm 9 level, ← shr-shr, levels)

-- `(va >> (12 + level * 9)) & 511`
pub index_mask : (level va : ℕ) → bit_and (va / 2 ^ (12 + level * 9)) 511 ≡ index level va
index_mask level va = and_mask (va / 2 ^ (12 + level * 9)) 9 ∙ rw (mul_comm 9 level)
