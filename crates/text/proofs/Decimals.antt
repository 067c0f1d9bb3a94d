-- Numbers in decimal: the digits that `io::decimal` writes are the definition's, and there are few. Assumes nothing.
use mathlib.Core.Path.{◌≡◌, ap}
use mathlib.Core.Bool.{cond}
use mathlib.Core.List.{List, [], ◌∷◌, ◌++◌}
use Prim.Native.Nat.{ℕ, zero, suc, ◌+◌, ◌-◌, ◌*◌, ◌/◌, ◌%◌, ◌^◌, ◌≤◌, ◌<◌}
use native.Mathlib.Nat.{pow-suc, one-le-pow}
use native.Mathlib.Numerals.{unary_clauses}
use native.Mathlib.Omega.{arith}
use native.Mathlib.Decide.{dec_lt, dec_le}
use lib.Dec.{ltb}
use lib.ListN.{length, length-append}
use borrow.Author.Tests.{lt-ltb, le-ltb}
use Rattle.io.specs.Digits.{last_digits, IsDigitCount}
use Rattle.text.specs.Text.{spelt, decimal, line_of, row_text}

-- a power of 10 is above its exponent
above : (k : ℕ) → k < 10 ^ k
above zero = omega arith
above (suc k) = omega (arith, above k, pow-suc 10 k)

-- the fewest digits of n, where f are enough
spelt_digits : (f k n : ℕ) → k ≤ f → IsDigitCount 10 1 n k → last_digits 10 k n ≡ spelt f n
unfolding spelt
spelt_digits f zero n l w = absurd (omega (arith, w.0))
spelt_digits zero (suc k) n l w = absurd (omega arith)
spelt_digits (suc f) (suc zero) n l w =
    let h : n < 10 = w.1 in
    let g : n % 10 < 10 = omega arith in
    rw (lt-ltb n 10 h, lt-ltb (n % 10) 10 g)
spelt_digits (suc f) (suc (suc k)) n l w =
    let low : 10 ^ k * 10 ≤ n = simp unary_clauses at (w.2 (omega arith)) in
    let one : 1 ≤ 10 ^ k = one-le-pow k 10 (omega arith) in
    let step : 10 ^ (suc k) ≡ 10 ^ k * 10 = pow-suc 10 k in
    let high : n < 10 ^ (suc k) * 10 = rw (pow-suc 10 (suc k)) at w.1 in
    let h : 10 ≤ n = omega arith in
    let g : n % 10 < 10 = omega arith in
    let rest : IsDigitCount 10 1 (n / 10) (suc k) = (omega arith, omega arith, λ q. simp unary_clauses (omega (arith, low))) in
    rw (le-ltb n 10 h, lt-ltb (n % 10) 10 g) (ap (λ (ds : List ℕ). ds ++ ((48 + n % 10) ∷ [])) (spelt_digits f (suc k) (n / 10) (omega arith) rest))

pub decimal_is : (k n : ℕ) → IsDigitCount 10 1 n k → last_digits 10 k n ≡ decimal n
unfolding decimal
decimal_is k n w = spelt_digits (suc n) k n (at (dec_le k (suc n))) w
  where
    at : Dec (k ≤ suc n) → k ≤ suc n
    at (yes h) = h
    at (no h) = absurd (omega (arith, w.2 (omega arith), above (k - 1)))

short_spelt : (f k n : ℕ) → 1 ≤ k → n < 10 ^ k → length (spelt f n) ≤ k
unfolding spelt
short_spelt zero k n l h = omega arith
short_spelt (suc f) zero n l h = absurd (omega arith)
short_spelt (suc f) (suc zero) n l h = rw (lt-ltb n 10 h) (omega arith)
short_spelt (suc f) (suc (suc k)) n l h =
    let high : n < 10 ^ (suc k) * 10 = rw (pow-suc 10 (suc k)) at h in
    at (dec_lt n 10) (short_spelt f (suc k) (n / 10) (omega arith) (omega arith))
  where
    at : Dec (n < 10) → length (spelt f (n / 10)) ≤ suc k → length (cond (ltb n 10) [] (spelt f (n / 10)) ++ ((48 + n % 10) ∷ [])) ≤ suc (suc k)
    at (yes s) q = rw (lt-ltb n 10 s) (omega arith)
    at (no s) q = rw (le-ltb n 10 (omega arith), length-append) (omega arith)

pub short : (k n : ℕ) → 1 ≤ k → n < 10 ^ k → length (decimal n) ≤ k
unfolding decimal
short k n = short_spelt (suc n) k n

-- the lines' lengths
pub row_short : (level index word : ℕ) → level < 10 → index < 1000 → word < 2 ^ 64 → length (row_text level index word) ≤ 27
unfolding row_text
row_short level index word l i w =
    simp length-append (omega (arith, short 1 level (omega arith) l, short 3 index (omega arith) i, short 20 word (omega arith) (omega arith)))

pub line_short : (word : List ℕ) (n : ℕ) → n < 2 ^ 64 → length (line_of word n) ≤ length word + 21
unfolding line_of
line_short word n h = simp length-append (omega (arith, short 20 n (omega arith) (omega arith)))
