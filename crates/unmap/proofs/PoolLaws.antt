-- Words that name pool frames, and how they are counted: bits 27 to 63 are 8. Assumes nothing.
use mathlib.Core.Path.{◌≡◌}
use Prim.Native.Nat.{ℕ, ◌-◌, ◌/◌, ◌%◌, ◌^◌, ◌≤◌, ◌<◌}
use native.Mathlib.Omega.{arith}
use lib.Bits.{bit_and, and_high, and_mask}
use Rattle.store.specs.Store.{Store, Sized, mark, frame_no}
use Rattle.store.specs.WellFormed.{WellFormed}
use Rattle.store.specs.Walk.{slot_word, slot, entry_at, resolve}
use Rattle.store.proofs.Scans.{in_range}
use Rattle.store.proofs.Tree.{LeafIn, TreeOf, top, tree_of, two}
use Rattle.store.proofs.Walk.{depth}
use Rattle.walk.specs.Missing.{entry_in}
use Rattle.walk.proofs.MissingLaws.{entry_in_lem}
use Rattle.unmap.specs.Leave.{PoolFrame}

-- what W4 says of a page's word
pub leaf_of : (s : Store) → TreeOf s → (r p : ℕ) → mark s.tmarks r ≡ 1 → p < 2 ^ 26 → 0 < resolve s r p → LeafIn (mark s.fmarks) (slot (slot_word s.words) r 2 p) (resolve s r p)
unfolding entry_at top
leaf_of s w r p rr h e =
    let m : ℕ = slot (slot_word s.words) r 2 p in
    w.leaf m e (omega (arith, depth w r 2 p rr (omega arith) (omega arith) (two w m e)))

-- the frame of a word in the held window is one of the pool
pub held_pool : (s : Store) → Sized s → (m e : ℕ) → LeafIn (mark s.fmarks) m e → 2 ≤ m → 0x10_0000 ≤ frame_no e → frame_no e < 0x12_0000 → PoolFrame s e
held_pool s z m e l h a b =
    let q = l.held a b in
    record { frame = frame_no e - 0x11_0000; there = in_range s.fmarks (frame_no e - 0x11_0000) (λ c. omega (arith, q.1)); number = omega (arith, q.0) }

module _ (s : Store) (z : Sized s) (r p : ℕ) where
  pub pool_counted : PoolFrame s (resolve s r p) → bit_and (entry_in s.words r 2 p) 0xFFFF_FFFF_F800_0000 ≡ 0x4000_0000
  pool_counted f = omega (arith, and_high (entry_in s.words r 2 p) 37 27, entry_in_lem s r 2 p, f.there, f.number, z.frames_to)

  pub counted_pool : WellFormed s → mark s.tmarks r ≡ 1 → p < 2 ^ 26 → bit_and (entry_in s.words r 2 p) 0xFFFF_FFFF_F800_0000 ≡ 0x4000_0000 → PoolFrame s (resolve s r p)
  unfolding entry_at
  counted_pool c rr h b =
      let w = tree_of s z c in
      let e : ℕ = resolve s r p in
      let q : e / 2 ^ 27 % 2 ^ 37 ≡ 8 = omega (arith, and_high (entry_in s.words r 2 p) 37 27, entry_in_lem s r 2 p) in
      let some : 0 < e = omega arith in
      let l = leaf_of s w r p rr h some in
      held_pool s z (slot (slot_word s.words) r 2 p) e l (two w (slot (slot_word s.words) r 2 p) some) (omega (arith, l.small)) (omega (arith, l.small))

  pub counted_bare : bit_and (entry_in s.words r 2 p) 1023 ≡ 1 → resolve s r p % 1024 ≡ 1
  counted_bare b = omega (arith, and_mask (entry_in s.words r 2 p) 10, entry_in_lem s r 2 p)

  pub bare_counted : resolve s r p % 1024 ≡ 1 → bit_and (entry_in s.words r 2 p) 1023 ≡ 1
  bare_counted b = omega (arith, and_mask (entry_in s.words r 2 p) 10, entry_in_lem s r 2 p)
