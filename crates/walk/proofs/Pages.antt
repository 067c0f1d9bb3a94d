-- A page of a root is mapped exactly where its level-0 word is not 0, and is counted by V. Assumes nothing.
use mathlib.Core.Path.{◌≡◌}
use Prim.Native.Nat.{ℕ, ◌%◌, ◌^◌, ◌<◌}
use native.Mathlib.Omega.{arith}
use lib.Bits.{bit_and, and_high}
use Rattle.store.specs.Store.{Store, Sized, mark}
use Rattle.store.specs.WellFormed.{WellFormed}
use Rattle.store.specs.Walk.{slot_word, slot, entry_at, resolve}
use Rattle.store.proofs.Tree.{TreeOf, tree_of, LeafIn, two, top}
use Rattle.store.proofs.Walk.{depth, top_of}
use Rattle.walk.specs.Mapped.{Mapped}
use Rattle.walk.specs.Missing.{entry_in}
use Rattle.walk.proofs.MissingLaws.{entry_in_lem}

module _ (s : Store) (z : Sized s) (w : WellFormed s) (r : ℕ) (rr : mark s.tmarks r ≡ 1) where
  -- a level-0 word that is not 0 has V, and its bits 54 to 63 are clear
  pub word_shape : (p : ℕ) → top 2 p < 512 → 0 < resolve s r p → (resolve s r p % 2 ≡ 1) × (resolve s r p < 2 ^ 54)
  unfolding entry_at
  word_shape p h l =
      let m : ℕ = slot (slot_word s.words) r 2 p in
      let tr : TreeOf s = tree_of s z w in
      let q : LeafIn (mark s.fmarks) m (slot_word s.words m) = tr.leaf m l (omega (arith, depth tr r 2 p rr h (omega arith) (two tr m l))) in
      (q.valid, q.small)

module _ (s : Store) (z : Sized s) (w : WellFormed s) (r : ℕ) (rr : mark s.tmarks r ≡ 1) (p : ℕ) (h : p < 2 ^ 26) where
  pub mapped_word : (resolve s r p ≡ 0 → ⊥) → Mapped s r p
  mapped_word n = omega (arith, (word_shape s z w r rr p (omega (arith, top_of p h)) (omega arith)).0)

  pub word_mapped : Mapped s r p → resolve s r p ≡ 0 → ⊥
  word_mapped m e = omega arith

-- a count with the mask 1 and the bits 1
module _ (s : Store) (r p : ℕ) where
  pub counted_mapped : bit_and (entry_in s.words r 2 p) 1 ≡ 1 → Mapped s r p
  counted_mapped h = omega (arith, and_high (entry_in s.words r 2 p) 1 0, entry_in_lem s r 2 p)

  pub mapped_counted : Mapped s r p → bit_and (entry_in s.words r 2 p) 1 ≡ 1
  mapped_counted m = omega (arith, and_high (entry_in s.words r 2 p) 1 0, entry_in_lem s r 2 p)
