-- An Sv39 page-table entry, as the privileged manual draws it (Sv39, page-table entries): bits 0 to 7 are V R W X U G A D,
-- bits 8 and 9 are for software, bits 10 to 53 are the frame number, and bits 54 to 63 are no part of either.
use Rattle.std.specs.Prelude.{Bool, ℕ, ◌+◌, ◌*◌, ◌%◌, eqb, ltb}
use Rattle.address.specs.Field.{field, bit}

abbrev pub bit_v : ℕ
bit_v = 0

abbrev pub bit_r : ℕ
bit_r = 1

abbrev pub bit_w : ℕ
bit_w = 2

abbrev pub bit_x : ℕ
bit_x = 3

abbrev pub bit_u : ℕ
bit_u = 4

-- bit k is 1
abbrev pub has : ℕ → ℕ → Bool
has k e = eqb (bit k e) 1

-- R, W and X are not all 0
abbrev pub leaf : ℕ → Bool
leaf e = ltb 0 (bit bit_r e + bit bit_w e + bit bit_x e)

-- the low ten bits
abbrev pub flags : ℕ → ℕ
flags e = e % 1024

abbrev pub frame_number : ℕ → ℕ
frame_number e = field 10 44 e

abbrev pub above_frame : ℕ → ℕ
above_frame e = field 54 10 e

-- where the frame that e names starts
abbrev pub frame_of : ℕ → ℕ
frame_of e = frame_number e * 4096
