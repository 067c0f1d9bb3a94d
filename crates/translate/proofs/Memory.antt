-- The manual's walk on the memory of a well-formed store: what it reads at each level. Assumes nothing.
use mathlib.Core.Path.{◌≡◌, sym, ap, ◌∙◌}
use Prim.Native.Nat.{ℕ, suc, ◌+◌, ◌-◌, ◌*◌, ◌/◌, ◌%◌, ◌^◌, ◌≤◌, ◌<◌}
use native.Mathlib.Omega.{arith}
use lib.ListN.{length}
use borrow.Author.Tests.{le-leb, lt-ltb, eq-eqb}
use Rattle.address.specs.Page.{index}
use Rattle.store.specs.Store.{Store, Sized, word, mark, pointer_to}
use Rattle.store.specs.WellFormed.{WellFormed}
use Rattle.store.specs.Walk.{slot_word, table_of, slot_in, slot, entry_at, resolve}
use Rattle.store.proofs.Scans.{in_range}
use Rattle.store.proofs.Tree.{TreeOf, tree_of, two, top, word_slot}
use Rattle.store.proofs.Walk.{depth}
use Rattle.translate.specs.Sv39.{entry, below, root, memory, satp_of, page_of}

pub page_low : (va : ℕ) → va < 2 ^ 38 → page_of va ≡ va / 4096
page_low va h = omega arith

-- the three indices, from the page
top_index : (va : ℕ) → index 2 va ≡ page_of va / 512 / 512
top_index va = omega arith

middle_index : (va : ℕ) → index 1 va ≡ page_of va / 512 % 512
middle_index va = omega arith

last_index : (va : ℕ) → index 0 va ≡ page_of va % 512
last_index va = omega arith

-- each page starts within the 512 entries of the root
pub top_page : (va : ℕ) → top 2 (page_of va) < 512
unfolding top
top_page va = omega arith

module _ (s : Store) (other : ℕ → ℕ) where
  -- word w of the store
  pub memory_word : (w : ℕ) → w < length s.words → memory s other (0x1_0000_0000 + 8 * w) ≡ word s.words w
  unfolding memory
  memory_word w h =
      let e : (0x1_0000_0000 + 8 * w - 0x1_0000_0000) / 8 ≡ w = omega arith in
      rw (le-leb 0x1_0000_0000 (0x1_0000_0000 + 8 * w) (omega arith), lt-ltb (0x1_0000_0000 + 8 * w) (0x1_0000_0000 + 8 * length s.words) (omega arith), eq-eqb ((0x1_0000_0000 + 8 * w) % 8) 0 (omega arith), e)

  -- entry i of table t
  table_word : Sized s → (t i a : ℕ) → t < length s.tmarks → i < 512 → a ≡ 0x1_0000_0000 + 4096 * t → memory s other (a + i * 8) ≡ slot_word s.words (512 * t + i + 2)
  table_word z t i a h l q =
      let e : a + i * 8 ≡ 0x1_0000_0000 + 8 * (512 * t + i) = omega arith in
      ap (memory s other) e ∙ memory_word (512 * t + i) (omega (arith, z.words)) ∙ sym (word_slot s.words (512 * t + i))

module _ (s : Store) (z : Sized s) (c : WellFormed s) (r : ℕ) (rr : mark s.tmarks r ≡ 1) where
  tr : TreeOf s
  tr = tree_of s z c

  pub there : r < length s.tmarks
  there = in_range s.tmarks r (λ e. omega (arith, rr))

  -- an entry of level 2 or 1 that is not 0 points to a table of the store
  pub points : (d x : ℕ) → d ≤ 1 → top d x < 512 → 0 < entry_at s r d x
      → (table_of (entry_at s r d x) < length s.tmarks) × (entry_at s r d x ≡ pointer_to (table_of (entry_at s r d x)))
  unfolding entry_at
  points d x b h p =
      let m : ℕ = slot (slot_word s.words) r d x in
      let q = tr.node m p (omega (arith, depth tr r d x rr h (omega arith) (two tr m p))) in
      (in_range s.tmarks (table_of (slot_word s.words m)) (λ e. omega (arith, q.1, two tr m p)), q.0)

  module _ (other : ℕ → ℕ) where
    -- the entry below it
    entry_below : (d x : ℕ) → d ≤ 1 → top (suc d) x < 512 → 0 < entry_at s r d (x / 512)
        → memory s other (below (entry_at s r d (x / 512)) + x % 512 * 8) ≡ entry_at s r (suc d) x
    unfolding entry_at slot top
    entry_below d x b h p =
        let e : ℕ = slot_word s.words (slot (slot_word s.words) r d (x / 512)) in
        let q : (table_of e < length s.tmarks) × (e ≡ pointer_to (table_of e)) = points d (x / 512) b h p in
        let a : below e ≡ 0x1_0000_0000 + 4096 * table_of e = omega (arith, z.tables_to) in
        let n : 512 * table_of e + x % 512 + 2 ≡ slot_in e (x % 512) = omega arith in
        table_word s other z (table_of e) (x % 512) (below e) q.0 (omega arith) a ∙ ap (slot_word s.words) n

    -- what the walk reads at level 2, and at levels 1 and 0 where the entry above is there
    pub reads_top : (va : ℕ) → entry (memory s other) va 2 (root (satp_of r)) ≡ entry_at s r 0 (page_of va / 512 / 512)
    unfolding entry_at slot
    reads_top va = rw top_index (table_word s other z r (page_of va / 512 / 512) (root (satp_of r)) there (omega arith) (omega (arith, there, z.tables_to)))

    pub reads_middle : (va : ℕ) → 0 < entry_at s r 0 (page_of va / 512 / 512)
        → entry (memory s other) va 1 (below (entry_at s r 0 (page_of va / 512 / 512))) ≡ entry_at s r 1 (page_of va / 512)
    unfolding top
    reads_middle va p = rw middle_index (entry_below 0 (page_of va / 512) (omega arith) (top_page va) p)

    pub reads_last : (va : ℕ) → 0 < entry_at s r 1 (page_of va / 512)
        → entry (memory s other) va 0 (below (entry_at s r 1 (page_of va / 512))) ≡ resolve s r (page_of va)
    reads_last va p = rw last_index (entry_below 1 (page_of va) (omega arith) (top_page va) p)
