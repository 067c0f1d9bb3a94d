-- The lowest free mark, and how many are free.
use Rattle.std.specs.Prelude.{List, [], ◌∷◌, ℕ, zero, suc, ◌+◌, length}
use Rattle.store.specs.Store.{Store, mark}

-- the place of the first 0, or the length where there is none
abbrev pub lowest : List ℕ → ℕ
lowest [] = 0
lowest (zero ∷ l) = 0
lowest (suc x ∷ l) = suc (lowest l)

abbrev pub is_zero : ℕ → ℕ
is_zero zero = 1
is_zero (suc n) = 0

-- how many of g c, g (c + 1), .., n of them, are 0
unfoldable pub zeros : (ℕ → ℕ) → ℕ → ℕ → ℕ
zeros g zero c = 0
zeros g (suc n) c = is_zero (g c) + zeros g n (suc c)

unfoldable pub free : List ℕ → ℕ
free ms = zeros (mark ms) (length ms) 0

abbrev pub free_tables : Store → ℕ
free_tables s = free s.tmarks

abbrev pub free_frames : Store → ℕ
free_frames s = free s.fmarks
