-- Finite sums.
use Rattle.std.specs.Prelude.{cond, ℕ, zero, suc, ◌+◌, eqb}

-- g 0 + .. + g (n - 1)
unfoldable pub sum : (ℕ → ℕ) → ℕ → ℕ
sum g zero = 0
sum g (suc n) = sum g n + g n

-- 1 where a and b are equal, else 0
unfoldable pub same : ℕ → ℕ → ℕ
same a b = cond (eqb a b) 1 0
