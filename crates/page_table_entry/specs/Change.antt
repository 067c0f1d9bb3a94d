-- An entry with one bit set or cleared: bit by bit, and in closed form.
use Rattle.std.specs.Prelude.{◌≡◌, ℕ, ◌+◌, ◌-◌, ◌*◌, ◌^◌}
use Rattle.address.specs.Field.{bit}

-- e with v for its bit k
abbrev pub with_bit : ℕ → ℕ → ℕ → ℕ
with_bit k v e = e - bit k e * 2 ^ k + v * 2 ^ k

pub record WithBit (k v e r : ℕ) : Type 0 where
  pub whole : r ≡ with_bit k v e
  pub here : bit k r ≡ v
  pub others : (j : ℕ) → (j ≡ k → ⊥) → bit j r ≡ bit j e
