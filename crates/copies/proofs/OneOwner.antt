-- A pool frame is that of one page only. Assumes nothing.
use mathlib.Core.Path.{◌≡◌, sym, ap, ◌∙◌}
use Prim.Native.Nat.{ℕ, ◌-◌, ◌^◌, ◌≤◌, ◌<◌}
use native.Mathlib.Omega.{arith}
use lib.ListN.{length}
use Rattle.store.specs.Store.{Store, Sized, mark, frame_no, pool_no}
use Rattle.store.specs.Walk.{slot_word, slot, entry_at, resolve}
use Rattle.store.proofs.Tree.{TreeOf, two}
use Rattle.store.proofs.Walk.{top_of, unique}
use Rattle.unmap.proofs.PoolLaws.{leaf_of}

module _ (s : Store) (z : Sized s) (w : TreeOf s) where
  -- the mark of a page's pool frame is the page's slot
  pub frame_mark : (r p f : ℕ) → mark s.tmarks r ≡ 1 → p < 2 ^ 26 → f < length s.fmarks → frame_no (resolve s r p) ≡ pool_no f
      → (mark s.fmarks f ≡ slot (slot_word s.words) r 2 p) × (2 ≤ slot (slot_word s.words) r 2 p)
  unfolding entry_at
  frame_mark r p f rr h l e =
      let some : 0 < resolve s r p = omega arith in
      let k : frame_no (resolve s r p) - 0x11_0000 ≡ f = omega arith in
      (sym (ap (mark s.fmarks) k) ∙ ((leaf_of s w r p rr h some).held (omega arith) (omega (arith, z.frames_to))).1, two w (slot (slot_word s.words) r 2 p) some)

  pub one_page : (r p r' p' f : ℕ) → mark s.tmarks r ≡ 1 → mark s.tmarks r' ≡ 1 → p < 2 ^ 26 → p' < 2 ^ 26 → f < length s.fmarks
      → frame_no (resolve s r p) ≡ pool_no f → frame_no (resolve s r' p') ≡ pool_no f → (r ≡ r') × (p ≡ p')
  one_page r p r' p' f rr rr' h h' l e e' =
      let a = frame_mark r p f rr h l e in
      let a' = frame_mark r' p' f rr' h' l e' in
      let u = unique w r 2 p r' 2 p' rr rr' (omega (arith, top_of p h)) (omega (arith, top_of p' h')) (omega arith) (omega arith) a.1 (sym a.0 ∙ a'.0) in
      (u.1, u.2)
