-- Counting the pages of a range by bits of their level-0 words.
use Rattle.std.specs.Prelude.{List, ℕ, ◌/◌}
use Rattle.std.specs.Int.Bits.{bit_and}
use Rattle.store.specs.Sum.{same}
use Rattle.well_formed.specs.Scan.{Over}
use Rattle.walk.specs.Missing.{entry_in, entry_under}

-- 1 where the bits of g k under the mask are v, else 0
abbrev pub alike : ℕ → ℕ → (ℕ → ℕ) → ℕ → ℕ
alike mask v g k = same (bit_and (g k) mask) v

-- the pages from first up to, not including, end of root r whose level-0 words have these bits are n
abbrev pub PagesAlike : List ℕ → ℕ → ℕ → ℕ → ℕ → ℕ → ℕ → Type 0
PagesAlike ws r first end mask v n = Over (alike mask v (entry_in ws r 2)) first end n

-- the level-0 word of page p, where top is the root's entry of its group
abbrev pub page_under : List ℕ → ℕ → ℕ → ℕ
page_under ws top p = entry_under ws (entry_under ws top (p / 512)) p
