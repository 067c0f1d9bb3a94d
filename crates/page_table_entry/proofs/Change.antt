-- One bit changed: the closed form has that bit, and every other bit as before. Assumes nothing.
use mathlib.Core.Path.{◌≡◌, sym, ap, ◌∙◌}
use mathlib.Core.Logic.{by_cases}
use Prim.Native.Nat.{ℕ, zero, suc, ◌+◌, ◌-◌, ◌*◌, ◌/◌, ◌%◌, ◌^◌, ◌<◌, ◌≤◌}
use native.Mathlib.Nat.{mod-lt, add-mul, le_refl}
use native.Mathlib.Decide.{dec_lt}
use native.Mathlib.Omega.{arith}
use lib.Bits.{bit_and, bit_or, and_comm, and_zero_r, or_disjoint}
use lib.Pow.{pow-lt, pow_pos, split, shl-shr, shl_exact}
use Rattle.std.proofs.lemmas.Nat.{and_assoc, and-not}
use Rattle.std.proofs.lemmas.Nat.Bits.{bit_at-suc, bit_at_cat_low, bit_at_cat_high, and_pow}
use Rattle.address.specs.Field.{bit}
use Rattle.page_table_entry.specs.Change.{with_bit, WithBit}

-- the closed form, with P for 2 ^ k: v stands in the place of the lowest bit of a
closed : (P a low e v : ℕ) → a * P + low ≡ e → e - a % 2 * P + v * P ≡ (a / 2 * 2 + v) * P + low
closed P a low e v h =
    let parts : a * P ≡ a / 2 * 2 * P + a % 2 * P = ap (λ (x : ℕ). x * P) (omega arith) ∙ add-mul (a / 2 * 2) (a % 2) P in
    omega (arith, add-mul (a / 2 * 2) v P)

-- numbers with the same half have the same bits above the lowest
same_half : (a b : ℕ) → a / 2 ≡ b / 2 → (i : ℕ) → 0 < i → bit i a ≡ bit i b
same_half a b h zero l = absurd (omega arith)
same_half a b h (suc i) l = bit_at-suc a i ∙ ap (bit i) h ∙ sym (bit_at-suc b i)

module _ (k v e : ℕ) (h : v < 2) where
  top : ℕ
  top = e / 2 ^ k / 2 * 2 + v

  form : with_bit k v e ≡ top * 2 ^ k + e % 2 ^ k
  unfolding top
  form = closed (2 ^ k) (e / 2 ^ k) (e % 2 ^ k) e v (split e k)

  -- bit j of a number whose bits below bit k are those of e
  upward : (a j : ℕ) → k ≤ j → bit j (a * 2 ^ k + e % 2 ^ k) ≡ bit (j - k) a
  upward a j l = bit_at_cat_high a k (e % 2 ^ k) j (mod-lt e (pow_pos k)) l

  here : bit k (with_bit k v e) ≡ v
  unfolding top
  here = let z : k - k ≡ 0 = omega arith in ap (bit k) form ∙ upward top k (le_refl k) ∙ ap (λ (i : ℕ). bit i top) z ∙ omega arith

  lower : (j : ℕ) → j < k → bit j (with_bit k v e) ≡ bit j e
  lower j l =
      ap (bit j) form ∙ bit_at_cat_low top k (e % 2 ^ k) j l ∙ sym (bit_at_cat_low (e / 2 ^ k) k (e % 2 ^ k) j l) ∙ ap (bit j) (split e k)

  higher : (j : ℕ) → k < j → bit j (with_bit k v e) ≡ bit j e
  unfolding top
  higher j l =
      ap (bit j) form ∙ upward top j (omega arith) ∙ same_half top (e / 2 ^ k) (omega arith) (j - k) (omega arith)
      ∙ sym (upward (e / 2 ^ k) j (omega arith)) ∙ ap (bit j) (split e k)

  pub with_bit_lem : (r : ℕ) → r ≡ with_bit k v e → WithBit k v e r
  with_bit_lem r w =
      record {
        whole = w;
        here = ap (bit k) w ∙ here;
        others = λ j n. ap (bit j) w ∙ by_cases (dec_lt j k) (lower j) (λ l. higher j (omega arith));
      }

  -- `(e & !(1 << k)) | (v << k)`
  pub bit_written : k < 64 → e < 2 ^ 64 → bit_or (bit_and e (2 ^ 64 - 1 - 1 * 2 ^ k % 2 ^ 64)) (v * 2 ^ k % 2 ^ 64) ≡ with_bit k v e
  bit_written l w =
      rw (one, all) (or_disjoint (bit_and e rest) (v * 2 ^ k) (and_assoc (v * 2 ^ k) e rest ∙ ap (bit_and e) apart ∙ and_zero_r e)
      ∙ omega (arith, and-not 64 (2 ^ k) e (pow-lt l) w, and_comm rest e, and_comm (2 ^ k) e, and_pow e k))
    where
      rest : ℕ
      rest = 2 ^ 64 - 1 - 2 ^ k

      one : 1 * 2 ^ k % 2 ^ 64 ≡ 2 ^ k
      one = shl_exact {a = 1} 1 k 64 (omega arith) (omega arith) ∙ omega arith

      all : v * 2 ^ k % 2 ^ 64 ≡ v * 2 ^ k
      all = shl_exact {a = v} 1 k 64 h (omega arith)

      same : bit k (v * 2 ^ k) ≡ v
      same = ap (λ (x : ℕ). x % 2) (shl-shr v k) ∙ omega arith

      apart : bit_and rest (v * 2 ^ k) ≡ 0
      apart = omega (arith, and-not 64 (2 ^ k) (v * 2 ^ k) (pow-lt l) (omega (arith, all, mod-lt (v * 2 ^ k) (pow_pos 64))), and_comm (2 ^ k) (v * 2 ^ k), and_pow (v * 2 ^ k) k ∙ ap (λ (b : ℕ). b * 2 ^ k) same)
