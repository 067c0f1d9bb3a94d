-- The pages that a range of bytes covers, in whole numbers: floor(va / 4096) up to, not including, ceil((va + size) / 4096).
use Rattle.std.specs.Prelude.{◌≡◌, ℕ, ◌+◌, ◌/◌}
use Rattle.rounding.specs.declared.PageRange.{PageRange}

abbrev pub first_page : ℕ → ℕ
first_page va = va / 4096

abbrev pub end_page : ℕ → ℕ → ℕ
end_page va size = (va + size + 4095) / 4096

pub record Covers (va size : ℕ) (r : PageRange) : Type 0 where
  pub from : r.first ≡ first_page va
  pub upto : r.end ≡ end_page va size
