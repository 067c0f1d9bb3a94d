-- Pages of 4,096 bytes, and the three indices of an Sv39 virtual address.
use Rattle.std.specs.Prelude.{ℕ, ◌+◌, ◌*◌, ◌/◌}
use Rattle.address.specs.Field.{field}

-- the start of the page that holds byte a
abbrev pub down : ℕ → ℕ
down a = a / 4096 * 4096

-- the first start of a page at or above a
abbrev pub up : ℕ → ℕ
up a = (a + 4095) / 4096 * 4096

-- the index at a level, the manual's VPN[level]: bits 12 to 20 at level 0, 21 to 29 at level 1, 30 to 38 at level 2
abbrev pub index : ℕ → ℕ → ℕ
index level va = field (12 + 9 * level) 9 va
