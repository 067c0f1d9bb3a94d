-- The fields of an entry: they determine it, and those of a frame number above ten flags. Assumes nothing.
use mathlib.Core.Path.{◌≡◌, sym, ap, ◌∙◌}
use Prim.Native.Nat.{ℕ, ◌+◌, ◌*◌, ◌/◌, ◌%◌, ◌^◌, ◌<◌}
use native.Mathlib.Nat.{mod-lt}
use native.Mathlib.Omega.{arith}
use lib.Pow.{pow_pos, mod-pow-add, recompose, split}
use Rattle.std.proofs.lemmas.Nat.Bits.{bit_at_cat_low, same_from_bits_below}
use Rattle.address.specs.Field.{bit}
use Rattle.page_table_entry.specs.Layout.{frame_number, above_frame}

-- a word in closed form: what stands above its frame number, that, and its flags
closed : (e : ℕ) → e < 2 ^ 64 → above_frame e * 2 ^ 54 + (frame_number e * 2 ^ 10 + e % 2 ^ 10) ≡ e
closed e h = ap (λ (x : ℕ). above_frame e * 2 ^ 54 + x) (sym (mod-pow-add e 44 10)) ∙ recompose 10 54 h

-- numbers with the same n low bits
same_bits : (n a b : ℕ) → ((k : ℕ) → k < n → bit k a ≡ bit k b) → a % 2 ^ n ≡ b % 2 ^ n
same_bits n a b h =
    same_from_bits_below n (a % 2 ^ n) (b % 2 ^ n) (mod-lt a (pow_pos n)) (mod-lt b (pow_pos n)) (λ i l. low a i l ∙ h i l ∙ sym (low b i l))
  where
    low : (x i : ℕ) → i < n → bit i (x % 2 ^ n) ≡ bit i x
    low x i l = sym (bit_at_cat_low (x / 2 ^ n) n (x % 2 ^ n) i l) ∙ ap (bit i) (split x n)

-- two words with the same ten flags, frame number and bits above it are the same word
pub same_fields : (a b : ℕ) → a < 2 ^ 64 → b < 2 ^ 64 → ((k : ℕ) → k < 10 → bit k a ≡ bit k b)
    → frame_number a ≡ frame_number b → above_frame a ≡ above_frame b → a ≡ b
same_fields a b la lb flags frame above = cc (closed a la, closed b lb, same_bits 10 a b flags)

-- a frame number a above flags m
pub frame_above : (a m : ℕ) → m < 1024 → a < 2 ^ 44 → (frame_number (a * 1024 + m) ≡ a) × (above_frame (a * 1024 + m) ≡ 0)
frame_above a m h l = omega arith
