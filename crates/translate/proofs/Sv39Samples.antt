-- The definitions of the manual's translation at work: pages of three sizes, and each fault. Assumes nothing.
use mathlib.Core.Path.{◌≡◌, refl}
use mathlib.Core.Bool.{cond}
use Prim.Native.Nat.{ℕ, ◌+◌, ◌-◌, ◌^◌}
use lib.Dec.{eqb}
use Rattle.page_table_entry.specs.Built.{entry_of}
use Rattle.translate.specs.Sv39.{Kind, load, store, fetch, Result, fault, at, judged, walk, finish, translate, Differs, neither, write_only}

-- a root at 0x1000, a table of level 1 at 0x2000 and one of level 0 at 0x3000, which have only these words
mem : ℕ → ℕ
mem a =
    cond (eqb a 0x1000) 0x801  -- entry 0 of the root: a pointer to 0x2000
    (cond (eqb a 0x1008) 0x2000_0013  -- entry 1: a page of 2 ^ 30 bytes at 0x8000_0000, R and U
    (cond (eqb a 0x1010) 0x2008_0013  -- entry 2: the same at 0x8020_0000, which is no multiple of 2 ^ 30
    (cond (eqb a 0x1018) 0x841  -- entry 3: as entry 0, and with A
    (cond (eqb a 0x1ff8) 0x3000_0017  -- entry 511: another at 0xc000_0000, R, W and U
    (cond (eqb a 0x2000) 0xc01  -- entry 0 of the next table: a pointer to 0x3000
    (cond (eqb a 0x2008) 0x2008_0019  -- entry 1: a page of 2 ^ 21 bytes at 0x8020_0000, X and U
    (cond (eqb a 0x3000) 0x2000_0417  -- entry 0 of the last: a page of 4,096 bytes at 0x8000_1000, R, W and U
    (cond (eqb a 0x3008) 0x2000_0407  -- entry 1: the same without U
    (cond (eqb a 0x3010) 0x2000_0411  -- entry 2: with V and U alone
    (cond (eqb a 0x3018) 0x2000_0415  -- entry 3: with W and without R
    (cond (eqb a 0x3020) (0x2000_0417 + 2 ^ 54) 0)))))))))))  -- entry 4: as entry 0, and with bit 54

satp : ℕ
satp = 2 ^ 63 + 1

run : ℕ → Kind → Result
run va kind = translate mem satp va kind

small_page : (run 0x123 load ≡ at 0x8000_1123) × (run 0x123 store ≡ at 0x8000_1123) × (run 0x123 fetch ≡ fault)
unfolding mem satp run translate walk judged finish
small_page = (refl, refl, refl)

large_pages : (run 0x20_1234 fetch ≡ at 0x8020_1234) × (run 0x20_1234 load ≡ fault) × (run 0x4765_4321 load ≡ at 0x8765_4321) × (run 0x4765_4321 store ≡ fault)
unfolding mem satp run translate walk judged finish
large_pages = (refl, refl, refl, refl)

-- the upper half is sign-extended from bit 38
upper_half : (run (2 ^ 64 - 2 ^ 30 + 5) store ≡ at 0xc000_0005) × (run (2 ^ 39 - 2 ^ 30 + 5) store ≡ fault) × (run (2 ^ 39 + 0x123) load ≡ fault)
unfolding mem satp run translate walk judged finish
upper_half = (refl, refl, refl)

-- misaligned, no entry, no U, neither R nor X, W without R, bit 54, A in a pointer, another mode
faults : (run 0x8000_0000 load ≡ fault) × (run 0x5000 load ≡ fault) × (run 0x1000 load ≡ fault) × (run 0x2000 load ≡ fault) × (run 0x3000 store ≡ fault) × (run 0x4000 load ≡ fault)
    × (run 0xc000_0123 load ≡ fault) × (translate mem 1 0x123 load ≡ fault)
unfolding mem satp run translate walk judged finish
faults = (refl, refl, refl, refl, refl, refl, refl, refl)

-- the smallest words of the two differences, entries of frame 0: permissions 0, and 4; of pages with U 16, and 20. The smallest
-- that has W without R and is not one of the first kind as well has X: permissions 12, and with U 28
smallest : Differs (entry_of 0 0) × Differs (entry_of 0 4) × Differs (entry_of 0 16) × Differs (entry_of 0 20) × Differs (entry_of 0 12) × Differs (entry_of 0 28)
smallest = (neither refl refl, write_only refl refl, neither refl refl, write_only refl refl, write_only refl refl, write_only refl refl)

words : (entry_of 0 0 ≡ 1) × (entry_of 0 4 ≡ 5) × (entry_of 0 16 ≡ 17) × (entry_of 0 20 ≡ 21) × (entry_of 0 12 ≡ 13) × (entry_of 0 28 ≡ 29)
words = (refl, refl, refl, refl, refl, refl)
