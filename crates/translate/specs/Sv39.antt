-- How the machine translates an address, after the Privileged manual: its section "Sv39", and steps 1 to 8 of its "Virtual Address
-- Translation Process", for accesses in user mode, without Svpbmt and Svnapot, and where reading physical memory never fails. Then
-- the physical memory that a store is, and the words in which that translation is compared with the walk of this crate.
use Rattle.std.specs.Prelude.{◌≡◌, Bool, cond, not, ◌&&◌, ◌||◌, ℕ, zero, suc, ◌+◌, ◌-◌, ◌*◌, ◌/◌, ◌%◌, ◌^◌, eqb, leb, ltb, length}
use Rattle.address.specs.Field.{field, bit}
use Rattle.address.specs.Page.{index}
use Rattle.page_table_entry.specs.Layout.{bit_v, bit_r, bit_w, bit_x, bit_u, has, frame_number, above_frame}
use Rattle.store.specs.Store.{Store, word}

-- ---- the manual

abbrev pub PAGESIZE : ℕ
PAGESIZE = 4096

abbrev pub PTESIZE : ℕ
PTESIZE = 8

abbrev pub LEVELS : ℕ
LEVELS = 3

-- the kind of an access in user mode
pub data Kind : Type 0 where
  load store fetch : Kind

-- where steps 2 to 4 end: at a page fault, or at a leaf entry, with its level
pub data Walked : Type 0 where
  none : Walked
  leaf : ℕ → ℕ → Walked

-- what a translation gives: a page fault, or a physical address
pub data Result : Type 0 where
  fault : Result
  at : ℕ → Result

-- Below, mem is the physical memory: the eight bytes at each physical address as one number, the lowest byte first.

-- step 2: the entry for va of the table of level i at address a
abbrev pub entry : (ℕ → ℕ) → ℕ → ℕ → ℕ → ℕ
entry mem va i a = mem (a + index i va * PTESIZE)

-- step 4: R or X is 1, a leaf
abbrev pub is_leaf : ℕ → Bool
is_leaf e = has bit_r e || has bit_x e

-- what is reserved: bits 54 to 63, and in an entry that is no leaf U, A and D, which are bits 4, 6 and 7
abbrev pub reserved : ℕ → Bool
reserved e = ltb 0 (above_frame e) || not (is_leaf e) && (has bit_u e || has 6 e || has 7 e)

-- step 3: V is 0, or R is 0 and W is 1, or a reserved bit is set
abbrev pub invalid : ℕ → Bool
invalid e = not (has bit_v e) || not (has bit_r e) && has bit_w e || reserved e

-- the table that a pointer names
abbrev pub below : ℕ → ℕ
below e = frame_number e * PAGESIZE

-- steps 3 and 4 for an entry e of level i, where a pointer leads to n
unfoldable pub judged : ℕ → ℕ → Walked → Walked
judged i e n = cond (invalid e) none (cond (is_leaf e) (leaf i e) n)

-- steps 2 to 4 from the table of level i at address a downward
unfoldable pub walk : (ℕ → ℕ) → ℕ → ℕ → ℕ → Walked
walk mem va zero a = judged 0 (entry mem va 0 a) none
walk mem va (suc i) a = judged (suc i) (entry mem va (suc i) a) (walk mem va i (below (entry mem va (suc i) a)))

-- step 5: of the frame number of a leaf of level i, a part below that level is not 0
abbrev pub misaligned : ℕ → ℕ → Bool
misaligned i e = ltb 0 (field 10 (9 * i) e)

-- step 6 in user mode: U, and R for a load, W for a store, X for a fetch
abbrev pub right : Kind → ℕ
right load = bit_r
right store = bit_w
right fetch = bit_x

abbrev pub allowed : Kind → ℕ → Bool
allowed kind e = has bit_u e && has (right kind) e

-- step 7, A and D, is that of hardware which sets these bits: no fault

-- step 8: above, the entry's frame number; below, the parts of va under level i and the offset
abbrev pub address : ℕ → ℕ → ℕ → ℕ
address i e va = field (10 + 9 * i) (44 - 9 * i) e * 2 ^ (12 + 9 * i) + field 0 (12 + 9 * i) va

-- steps 5 to 8
unfoldable pub finish : Kind → ℕ → Walked → Result
finish kind va none = fault
finish kind va (leaf i e) = cond (misaligned i e) fault (cond (allowed kind e) (at (address i e va)) fault)

-- bits 39 to 63 of va are all equal to bit 38
abbrev pub canonical : ℕ → Bool
canonical va = eqb (field 39 25 va) (bit 38 va * (2 ^ 25 - 1))

-- the satp register: its mode, which is 8 for Sv39, and where its root table lies (step 1)
abbrev pub mode : ℕ → ℕ
mode satp = field 60 4 satp

abbrev pub root : ℕ → ℕ
root satp = field 0 44 satp * PAGESIZE

unfoldable pub translate : (ℕ → ℕ) → ℕ → ℕ → Kind → Result
translate mem satp va kind = cond (eqb (mode satp) 8 && canonical va) (finish kind va (walk mem va (LEVELS - 1) (root satp))) fault

-- ---- the store

-- table t lies at 0x1_0000_0000 + 4096t, so word w at 0x1_0000_0000 + 8w; elsewhere, and at addresses that are no multiple of 8,
-- which no walk reads, it is as the memory `other`
unfoldable pub memory : Store → (ℕ → ℕ) → ℕ → ℕ
memory s other a =
    cond (leb 0x1_0000_0000 a && ltb a (0x1_0000_0000 + 8 * length s.words) && eqb (a % 8) 0) (word s.words ((a - 0x1_0000_0000) / 8)) (other a)

-- the satp of root r
abbrev pub satp_of : ℕ → ℕ
satp_of r = 0x8000_0000_0010_0000 + r

-- ---- the comparison

-- the page of va by its three indices, bits 12 to 38; below 2 ^ 38 this is va / 4096
abbrev pub page_of : ℕ → ℕ
page_of va = va / 4096 % 2 ^ 27

-- the manual takes e for a leaf: R or X, and not W without R
abbrev pub usable : ℕ → Bool
usable e = is_leaf e && not (has bit_w e && not (has bit_r e))

-- what steps 2 to 4 then make of a level-0 word e; 0 is not usable
abbrev pub ends : ℕ → Walked
ends e = cond (usable e) (leaf 0 e) none

-- the manual lets an access of this kind through e
abbrev pub granted : Kind → ℕ → Bool
granted kind e = has bit_v e && usable e && allowed kind e

-- where the two differ: with V, such a word of level 0 is mapped here, and faults there
pub data Differs (e : ℕ) : Type 0 where
  neither : bit bit_r e ≡ 0 → bit bit_x e ≡ 0 → Differs e
  write_only : bit bit_r e ≡ 0 → bit bit_w e ≡ 1 → Differs e
