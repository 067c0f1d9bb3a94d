-- What loops over a slice come to. Assumes nothing.
use mathlib.Core.Path.{◌≡◌}
use mathlib.Core.List.{List}
use mathlib.Core.Logic.{by_cases}
use Prim.Native.Nat.{ℕ, ◌≤◌, ◌<◌}
use native.Mathlib.Decide.{dec_lt}
use native.Mathlib.Omega.{arith}
use lib.ListN.{length, get_or, get_or-eq_default}

-- a scan that came to the end
pub passed : (P : ℕ → Type 0) (n i : ℕ) → n ≤ i → ((k : ℕ) → k < i → P k) → (k : ℕ) → k < n → P k
passed P n i h all k l = all k (omega arith)

-- a number that is not 0 stands within the list
pub in_range : (l : List ℕ) (i : ℕ) → (get_or l i 0 ≡ 0 → ⊥) → i < length l
in_range l i h = by_cases (dec_lt i (length l)) (λ p. p) (λ n. absurd (h (get_or-eq_default l 0 (omega arith))))
