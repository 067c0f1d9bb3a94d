-- The samples S1 to S12 of document 01, in the definitions that the contracts cite.
use Rattle.std.specs.Prelude.{◌≡◌, ◌∷◌, ℕ, ◌+◌, ◌*◌, replicate}
use Rattle.address.specs.Page.{index}
use Rattle.address.specs.Answer.{answered}
use Rattle.rounding.specs.Range.{Covers}
use Rattle.page_table_entry.specs.Layout.{frame_of, flags}
use Rattle.page_table_entry.specs.Built.{written}
use Rattle.store.specs.Store.{Store, store_of}
use Rattle.walk.specs.Missing.{missing}

-- the indices of va at levels 2, 1 and 0
abbrev Indices : ℕ → ℕ → ℕ → ℕ → Type 0
Indices va i j k = (index 2 va ≡ i) × (index 1 va ≡ j) × (index 0 va ≡ k)

-- the range covers the pages from first up to, not including, end
abbrev Pages : ℕ → ℕ → ℕ → ℕ → Type 0
Pages va size first end = Covers va size (record { first = first; end = end })

-- a fresh store of 8 tables and 8 frames, with table 0 as its one root
abbrev pub fresh_store : Store
fresh_store = store_of (replicate 4096 0) (1 ∷ replicate 7 0) (replicate 32768 0) (replicate 8 0)

abbrev pub Samples : Type 0
Samples =
    Indices 0x3F_FFFF_F000 255 511 511
    × Indices 0x4020_1000 1 1 1
    × (written 0x8000_0000 6 ≡ answered 0x2000_0007)
    × (written 0x8000_0FFF 6 ≡ answered 0x2000_0007)
    × (written (0x1_0000_0000 + 4096 * 3) 0 ≡ answered 0x4000_0C01)
    × (written (0x1_1000_0000 + 4096 * 2) 31 ≡ answered 0x4400_081F)
    × Pages 0x1001 0 1 2
    × Pages 0x1000 0 1 1
    × Pages 0xFFF 2 0 2
    × (missing fresh_store 0 262143 2 ≡ 4)
    × (missing fresh_store 0 511 513 ≡ 3)
    × ((frame_of 0x2000_0007 ≡ 0x8000_0000) × (flags 0x2000_0007 ≡ 7))
