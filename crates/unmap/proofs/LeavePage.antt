-- `leave_page`: the page is not mapped, its pool frame is free again, and every other walk finds what it found. Assumes nothing.
use mathlib.Core.Path.{◌≡◌, refl, sym, ap, ◌∙◌, subst}
use mathlib.Core.Logic.{by_cases}
use mathlib.Core.Bool.{Bool, true, false, cond}
use mathlib.Core.List.{List}
use Prim.Native.Nat.{ℕ, suc, ◌+◌, ◌-◌, ◌^◌, ◌≤◌, ◌<◌}
use native.Mathlib.Decide.{dec_lt, dec_le}
use native.Mathlib.Omega.{arith}
use lib.Dec.{leb}
use lib.ListN.{length, set, length-set}
use lib.Seq.{set_out}
use borrow.Author.Tests.{le-leb, lt-leb, lt-ltb, le-ltb}
use Rattle.store.specs.Store.{Store, store_of, Sized, mark, frame_no, pool_no}
use Rattle.store.specs.Level.{home, level}
use Rattle.store.specs.Count.{zeros, free, free_frames}
use Rattle.store.specs.Walk.{slot_word, slot, entry_at}
use Rattle.store.proofs.Scans.{in_range}
use Rattle.store.proofs.Tree.{Tree, TreeOf, two, top}
use Rattle.store.proofs.Walk.{top_of}
use Rattle.walk.proofs.Spans.{Upd, zeros_upd}
use Rattle.enter.specs.Enter.{put_slot}
use Rattle.enter.proofs.Updates.{upd_mark}
use Rattle.enter.proofs.Leaves.{tree_leaf, tree_unpooled}
use Rattle.enter.proofs.Write.{leaf_level, leaf_upd, leaf_here, leaf_rest, leaf_sized}
use Rattle.unmap.specs.Leave.{PoolFrame, given_back, leave_slot, leave_page}
use Rattle.unmap.specs.Gone.{in_pool}
use Rattle.unmap.proofs.PoolLaws.{leaf_of}

-- page p has left root r
pub record Left (s s' : Store) (r p : ℕ) (freeing : Bool) : Type 0 where
  pub sized : Sized s'
  pub tree : TreeOf s'
  pub tmarks : s'.tmarks ≡ s.tmarks
  pub bytes : s'.bytes ≡ s.bytes
  pub frames : length s'.fmarks ≡ length s.fmarks
  pub here : entry_at s' r 2 p ≡ 0
  pub rest : (r' d x : ℕ) → mark s.tmarks r' ≡ 1 → top d x < 256 → d ≤ 2 → (d ≡ 2 → r' ≡ r → x ≡ p → ⊥) → entry_at s' r' d x ≡ entry_at s r' d x
  pub kept : (f : ℕ) → (freeing ≡ true → frame_no (entry_at s r 2 p) ≡ pool_no f → ⊥) → mark s'.fmarks f ≡ mark s.fmarks f
  pub freed : freeing ≡ true → (f : ℕ) → f < length s.fmarks → frame_no (entry_at s r 2 p) ≡ pool_no f → mark s'.fmarks f ≡ 0
  pub count : free_frames s' ≡ free_frames s + cond freeing (in_pool (length s.fmarks) (entry_at s r 2 p)) 0

-- an entry with a pool frame, and one without
pub pool_one : (s : Store) (e : ℕ) → PoolFrame s e → in_pool (length s.fmarks) e ≡ 1
unfolding in_pool
pool_one s e f = rw (le-leb 0x11_0000 (frame_no e) (omega (arith, f.number)), lt-ltb (frame_no e - 0x11_0000) (length s.fmarks) (omega (arith, f.number, f.there)))

pub pool_none : (s : Store) (e : ℕ) → (PoolFrame s e → ⊥) → in_pool (length s.fmarks) e ≡ 0
unfolding in_pool
pool_none s e n =
    by_cases (dec_le 0x11_0000 (frame_no e))
    (λ h. rw (
      le-leb 0x11_0000 (frame_no e) h,
      le-ltb (frame_no e - 0x11_0000) (length s.fmarks)
          (by_cases (dec_lt (frame_no e - 0x11_0000) (length s.fmarks)) (λ l. absurd (n (record { frame = frame_no e - 0x11_0000; there = l; number = omega arith }))) (λ l. omega arith)),
    ))
    (λ h. rw (lt-leb 0x11_0000 (frame_no e) (omega arith)))

-- a level-0 word that no frame's mark names becomes 0
tree_emptied : {a k f lv : ℕ → ℕ} (a' : ℕ → ℕ) (m : ℕ) → Tree a k f lv → Upd a a' m 0 → 2 ≤ m → lv (home m) ≡ 0 → ((j : ℕ) → 0 < f j → f j ≡ m → ⊥) → Tree a' k f lv
tree_emptied {a} {k} {f} {lv} a' m w ua m2 l0 none =
    tree_leaf a' f m 0 w ua m2 l0 (λ h. absurd (omega arith)) (λ x n q h. q)
    (λ j h. let q = w.pool j h in (q.0, ap frame_no (ua.other (f j) (none j h)) ∙ q.1))

module _ (s : Store) (z : Sized s) (w : TreeOf s) (r p : ℕ) (rr : mark s.tmarks r ≡ 1) (h : p < 2 ^ 26) (some : 0 < entry_at s r 2 p) where
  abbrev m : ℕ
  m = slot (slot_word s.words) r 2 p

  abbrev e : ℕ
  e = entry_at s r 2 p

  pub slotted : 2 ≤ m
  unfolding entry_at
  slotted = two w m some

  abbrev written : List ℕ
  written = put_slot s.words (slot (slot_word s.words) r 2 p) 0

  ua : Upd (slot_word s.words) (slot_word written) m 0
  ua = leaf_upd s z w r p 0 rr (top_of p h) slotted

  lv : level s.tmarks (home m) ≡ 0
  lv = leaf_level s z w r p 0 rr (top_of p h) slotted

  -- where the word names no pool frame
  emptied : (PoolFrame s e → ⊥) → TreeOf (store_of written s.tmarks s.bytes s.fmarks)
  unfolding entry_at
  emptied n = tree_emptied (slot_word written) m w ua slotted lv (λ j g q. n (record { frame = j; there = in_range s.fmarks j (λ c. omega arith); number = ap (λ (x : ℕ). frame_no (slot_word s.words x)) (sym q) ∙ (w.pool j g).1 }))

  -- where it names pool frame j
  marked : (j : ℕ) → j < length s.fmarks → frame_no e ≡ pool_no j → mark s.fmarks j ≡ m
  marked j l q =
      let c = (leaf_of s w r p rr h some).held (omega (arith, z.frames_to)) (omega (arith, z.frames_to)) in
      let i : frame_no e - 0x11_0000 ≡ j = omega arith in
      ap (mark s.fmarks) (sym i) ∙ c.1

  freed_tree : (j : ℕ) → j < length s.fmarks → frame_no e ≡ pool_no j → TreeOf (store_of written s.tmarks s.bytes (set s.fmarks j 0))
  freed_tree j l q =
      tree_unpooled (slot_word written) (mark (set s.fmarks j 0)) m 0 w ua slotted lv j refl (marked j l q) (upd_mark s.fmarks j 0 l)

  -- one frame more is free
  counted : (j : ℕ) → j < length s.fmarks → frame_no e ≡ pool_no j → Upd (mark s.fmarks) (mark (set s.fmarks j 0)) j 0
      → free (set s.fmarks j 0) ≡ suc (free_frames s)
  unfolding free
  counted j l q u =
      ap (λ (n : ℕ). zeros (mark (set s.fmarks j 0)) n 0) (length-set s.fmarks j 0)
      ∙ zeros_upd (mark (set s.fmarks j 0)) (mark s.fmarks) j m (length s.fmarks) 0 (record { same = marked j l q; other = λ x n. sym (u.other x n) }) u.same (omega (arith, slotted)) (omega arith) (omega arith)

  abbrev after : List ℕ → Store
  after fs = store_of written s.tmarks s.bytes fs

  -- no mark changes, since the word names no pool frame
  left_foreign : (freeing : Bool) → (PoolFrame s e → ⊥) → Left s (after s.fmarks) r p freeing
  left_foreign freeing n = record {
    sized = leaf_sized s z w r p 0 rr (top_of p h) slotted s.bytes s.fmarks refl refl;
    tree = emptied n;
    tmarks = refl;
    bytes = refl;
    frames = refl;
    here = leaf_here s z w r p 0 rr (top_of p h) slotted s.bytes s.fmarks;
    rest = leaf_rest s z w r p 0 rr (top_of p h) slotted s.bytes s.fmarks;
    kept = λ f q. refl;
    freed = λ y f l q. absurd (n (record { frame = f; there = l; number = q }));
    count = go freeing;
  }
    where
      go : (b : Bool) → free_frames (after s.fmarks) ≡ free_frames s + cond b (in_pool (length s.fmarks) e) 0
      go true = omega (arith, pool_none s e n)
      go false = omega arith

  -- the mark of pool frame j becomes 0
  left_pooled : (j : ℕ) → j < length s.fmarks → frame_no e ≡ pool_no j → Left s (after (set s.fmarks j 0)) r p true
  left_pooled j l q =
      let u = upd_mark s.fmarks j 0 l in
      record {
        sized = leaf_sized s z w r p 0 rr (top_of p h) slotted s.bytes (set s.fmarks j 0) refl (length-set s.fmarks j 0);
        tree = freed_tree j l q;
        tmarks = refl;
        bytes = refl;
        frames = length-set s.fmarks j 0;
        here = leaf_here s z w r p 0 rr (top_of p h) slotted s.bytes (set s.fmarks j 0);
        rest = leaf_rest s z w r p 0 rr (top_of p h) slotted s.bytes (set s.fmarks j 0);
        kept = λ f n. u.other f (λ c. n refl (omega arith));
        freed = λ y f m x. let c : f ≡ j = omega arith in ap (mark (set s.fmarks j 0)) c ∙ u.same;
        count = counted j l q u ∙ (omega (arith, pool_one s e (record { frame = j; there = l; number = q })));
      }

  -- the frame marks that freeing leaves
  given : Left s (after (given_back s.fmarks e)) r p true
  unfolding given_back
  given = by_cases (dec_le 0x11_0000 (frame_no e)) high low
    where
      low : (0x11_0000 ≤ frame_no e → ⊥) → Left s (after (cond (leb 0x11_0000 (frame_no e)) (set s.fmarks (frame_no e - 0x11_0000) 0) s.fmarks)) r p true
      low n = rw (lt-leb 0x11_0000 (frame_no e) (omega arith)) (left_foreign true (λ f. n (omega (arith, f.number))))

      high : 0x11_0000 ≤ frame_no e → Left s (after (cond (leb 0x11_0000 (frame_no e)) (set s.fmarks (frame_no e - 0x11_0000) 0) s.fmarks)) r p true
      high y =
          rw (le-leb 0x11_0000 (frame_no e) y)
          (by_cases (dec_lt (frame_no e - 0x11_0000) (length s.fmarks))
          (λ l. left_pooled (frame_no e - 0x11_0000) l (omega arith))
          (λ l. subst (λ (fs : List ℕ). Left s (after fs) r p true) (sym (set_out s.fmarks (frame_no e - 0x11_0000) 0 (omega arith)))
          (left_foreign true (λ f. l (omega (arith, f.there, f.number))))))

  pub page_left : (freeing : Bool) → (freeing ≡ false → PoolFrame s e → ⊥) → Left s (leave_page s r p freeing) r p freeing
  unfolding leave_slot entry_at
  page_left true f = given
  page_left false f = left_foreign false (f refl)
