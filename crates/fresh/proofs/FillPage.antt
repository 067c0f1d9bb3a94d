-- `filled` at the slot of a page that is not mapped and whose level-0 table is there: the page has the frame, and everything else is as it was. Assumes nothing.
use mathlib.Core.Path.{◌≡◌, refl, sym, ap, ◌∙◌}
use mathlib.Core.List.{List}
use Prim.Native.Nat.{ℕ, suc, ◌/◌, ◌%◌, ◌^◌, ◌≤◌, ◌<◌}
use native.Mathlib.Omega.{arith}
use lib.ListN.{length, set, length-set}
use Rattle.store.specs.Store.{Store, Sized, mark}
use Rattle.store.specs.Count.{lowest, zeros, free, free_frames}
use Rattle.store.specs.Walk.{slot_word, slot, entry_at}
use Rattle.store.proofs.Tree.{LeafIn, TreeOf, top}
use Rattle.store.proofs.Walk.{top_of}
use Rattle.walk.proofs.Spans.{Upd, zeros_upd}
use Rattle.enter.proofs.Updates.{upd_mark}
use Rattle.enter.proofs.Hang.{lowest_free}
use Rattle.enter.proofs.Leaves.{tree_pooled}
use Rattle.enter.proofs.EnterPage.{page_slot}
use Rattle.enter.proofs.Write.{leaf_level, leaf_upd, leaf_here, leaf_rest, leaf_sized}
use Rattle.fresh.specs.Fill.{pool_entry, framed, filled}
use Rattle.fresh.proofs.FrameBytes.{framed_length}

-- page p of root r got pool frame f with the flags q; it was free and holds b
pub record Filled (s s' : Store) (r p q f : ℕ) (b : List ℕ) : Type 0 where
  pub sized : Sized s'
  pub tree : TreeOf s'
  pub tmarks : s'.tmarks ≡ s.tmarks
  pub there : f < length s.fmarks
  pub was_free : mark s.fmarks f ≡ 0
  pub here : entry_at s' r 2 p ≡ pool_entry f q
  pub rest : (r' d x : ℕ) → mark s.tmarks r' ≡ 1 → top d x < 256 → d ≤ 2 → (d ≡ 2 → r' ≡ r → x ≡ p → ⊥) → entry_at s' r' d x ≡ entry_at s r' d x
  pub marked : mark s'.fmarks f ≡ slot (slot_word s.words) r 2 p
  pub kept : (j : ℕ) → (j ≡ f → ⊥) → mark s'.fmarks j ≡ mark s.fmarks j
  pub free : free_frames s ≡ suc (free_frames s')
  pub bytes : s'.bytes ≡ framed s.bytes f b

module _ (s : Store) (z : Sized s) (w : TreeOf s) (r p : ℕ) (rr : mark s.tmarks r ≡ 1) (h : p < 2 ^ 26) (t : 0 < entry_at s r 1 (p / 512)) (none : entry_at s r 2 p ≡ 0)
    (some : 0 < free_frames s) (q : ℕ) (qv : q % 2 ≡ 1) (q10 : q < 1024) (b : List ℕ) (lb : length b ≡ 4096) where
  abbrev m : ℕ
  m = slot (slot_word s.words) r 2 p

  abbrev f : ℕ
  f = lowest s.fmarks

  low : (f < length s.fmarks) × (mark s.fmarks f ≡ 0)
  low = lowest_free s.fmarks some

  m2 : 2 ≤ m
  m2 = page_slot s w r p rr h t

  uf : Upd (mark s.fmarks) (mark (set s.fmarks f m)) f m
  uf = upd_mark s.fmarks f m low.0

  leaf : LeafIn (mark (set s.fmarks f m)) m (pool_entry f q)
  leaf = record {
    valid = omega arith;
    small = omega (arith, low.0, z.frames_to);
    held = λ x y. (omega arith, ap (mark (set s.fmarks f m)) (omega arith) ∙ uf.same);
  }

  pub slot_filled : Filled s (filled s (slot (slot_word s.words) r 2 p) q b) r p q (lowest s.fmarks) b
  unfolding filled entry_at free
  slot_filled =
      let e : ℕ = pool_entry f q in
      let ua = leaf_upd s z w r p e rr (top_of p h) m2 in
      let bs : List ℕ = framed s.bytes f b in
      let fs : List ℕ = set s.fmarks f m in
      let lf = framed_length s.bytes f b lb (omega (arith, z.bytes, low.0)) in
      record {
        sized = leaf_sized s z w r p e rr (top_of p h) m2 bs fs lf (length-set s.fmarks f m);
        tree = tree_pooled _ (mark fs) m e w ua m2 (leaf_level s z w r p e rr (top_of p h) m2) f none low.1 uf (omega arith) leaf;
        tmarks = refl;
        there = low.0;
        was_free = low.1;
        here = leaf_here s z w r p e rr (top_of p h) m2 bs fs;
        rest = leaf_rest s z w r p e rr (top_of p h) m2 bs fs;
        marked = uf.same;
        kept = uf.other;
        free = zeros_upd (mark s.fmarks) (mark fs) f m (length s.fmarks) 0 uf low.1 (omega (arith, m2)) (omega arith) (omega (arith, low.0))
            ∙ ap (λ (n : ℕ). suc (zeros (mark fs) n 0)) (sym (length-set s.fmarks f m));
        bytes = refl;
      }
