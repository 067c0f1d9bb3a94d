-- Which pages are mapped, and which are not of a range.
use Rattle.std.specs.Prelude.{◌≡◌, ℕ, ◌+◌, ◌≤◌, ◌<◌}
use Rattle.address.specs.Field.{bit}
use Rattle.page_table_entry.specs.Layout.{bit_v}
use Rattle.store.specs.Store.{Store}
use Rattle.store.specs.Walk.{resolve}

-- its level-0 word exists and has V
abbrev pub Mapped : Store → ℕ → ℕ → Type 0
Mapped s r p = bit bit_v (resolve s r p) ≡ 1

-- page x of root r' is none of the n pages of root r from p on
abbrev pub Other : ℕ → ℕ → ℕ → ℕ → ℕ → Type 0
Other r p n r' x = r' ≡ r → p ≤ x → x < p + n → ⊥
