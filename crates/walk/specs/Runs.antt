-- Slots that a scan takes as one.
use Rattle.std.specs.Prelude.{◌≡◌, List, ℕ, ◌+◌, ◌-◌, ◌%◌, ◌≤◌, ◌<◌}
use Rattle.store.specs.Walk.{slot_word}

-- r slots from slot m on: one, or several that are empty and lie in the same 64 words
pub record Run (ws : List ℕ) (m r : ℕ) : Type 0 where
  pub some : 1 ≤ r
  pub within : (m - 2) % 64 + r ≤ 64
  pub there : 1 < r → 2 ≤ m
  pub empty : 1 < r → (j : ℕ) → m ≤ j → j < m + r → slot_word ws j ≡ 0
