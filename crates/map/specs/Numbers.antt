-- What the numbers of a call of `map` may be: its pages, its frames and its permissions.
use Rattle.std.specs.Prelude.{ℕ, ◌+◌, ◌-◌, ◌/◌, ◌^◌, ◌≤◌, ◌<◌}
use Rattle.rounding.specs.Range.{first_page, end_page}

-- how many pages the range covers
abbrev pub pages_of : ℕ → ℕ → ℕ
pages_of va size = end_page va size - first_page va

-- the number of the frame that page i of the range is to have; unaligned pa is rounded down
abbrev pub frame_at : ℕ → ℕ → ℕ
frame_at pa i = pa / 4096 + i

-- a frame number of the held window
pub record InWindow (n : ℕ) : Type 0 where
  pub from : 0x10_0000 ≤ n
  pub upto : n < 0x12_0000

-- 6: the size exceeds 2^38, or a page asked for lies at or above 2^38; 8: permissions above 1023; 9: a frame to be mapped lies at or
-- above 2^56; 10: it lies in the held window
pub data NumberReason (va pa size perm : ℕ) : ℕ → Type 0 where
  too_long : 2 ^ 38 < size → NumberReason va pa size perm 6
  too_high : (p : ℕ) → first_page va ≤ p → p < end_page va size → 2 ^ 26 ≤ p → NumberReason va pa size perm 6
  permissions : 1023 < perm → NumberReason va pa size perm 8
  frame_high : (i : ℕ) → i < pages_of va size → 2 ^ 44 ≤ frame_at pa i → NumberReason va pa size perm 9
  held : (i : ℕ) → i < pages_of va size → InWindow (frame_at pa i) → NumberReason va pa size perm 10

-- what holds where none of them applies
pub record NumbersReady (va pa size perm : ℕ) : Type 0 where
  pub length : size ≤ 2 ^ 38
  pub pages : first_page va < end_page va size → end_page va size ≤ 2 ^ 26
  pub perms : perm ≤ 1023
  pub frames : (i : ℕ) → i < pages_of va size → frame_at pa i < 2 ^ 44
  pub outside : (i : ℕ) → i < pages_of va size → InWindow (frame_at pa i) → ⊥
