-- The tree of tables, W1 to W5 in the form that proofs work with, and that it says the same. Assumes nothing.
use mathlib.Core.Path.{◌≡◌, refl, sym, ap, ◌∙◌}
use mathlib.Core.Logic.{◌⊎◌, inl, inr, ⊎_elim, ◌↔◌, by_cases}
use mathlib.Core.List.{List}
use Prim.Native.Nat.{ℕ, zero, suc, ◌+◌, ◌-◌, ◌/◌, ◌%◌, ◌^◌, ◌≤◌, ◌<◌}
use native.Mathlib.Nat.{add-sub_cancel}
use native.Mathlib.Omega.{arith}
use native.Mathlib.Decide.{dec_lt}
use lib.ListN.{length}
use Rattle.store.specs.Store.{Store, Sized, word, mark, pointer_to, frame_no, pool_no}
use Rattle.store.specs.Level.{home, level}
use Rattle.store.specs.WellFormed.{Inner, Pointed, Points, Outside, Held, Leaf, Named, WellFormed}
use Rattle.store.specs.Walk.{slot_word, table_of}
use Rattle.store.proofs.Levels.{three, level_free, level_root, root_level}
use Rattle.store.proofs.Scans.{in_range}

-- what W4 says of a word e, not 0, in slot m of a table of level 0
pub record LeafIn (f : ℕ → ℕ) (m e : ℕ) : Type 0 where
  pub valid : e % 2 ≡ 1
  pub small : e < 2 ^ 54
  pub held : 0x10_0000 ≤ frame_no e → frame_no e < 0x12_0000 → (0x11_0000 ≤ frame_no e) × (f (frame_no e - 0x11_0000) ≡ m)

-- a m is the word in slot m, k t the mark of table t, f j that of frame j, lv t the level of table t
pub record Tree (a k f lv : ℕ → ℕ) : Type 0 where
  pub none : a 0 + a 1 ≡ 0
  pub free : (t : ℕ) → k t ≡ 0 → lv t ≡ 3
  pub root : (t : ℕ) → k t ≡ 1 → lv t ≡ 2
  pub link : (t : ℕ) → 2 ≤ k t → (a (k t) ≡ pointer_to t) × (lv (home (k t)) ≡ suc (lv t))
  pub used : (m : ℕ) → 0 < a m → lv (home m) ≤ 2
  pub half : (m : ℕ) → 0 < a m → lv (home m) ≡ 2 → (m - 2) % 512 < 256
  pub node : (m : ℕ) → 0 < a m → 1 ≤ lv (home m) → (a m ≡ pointer_to (table_of (a m))) × (k (table_of (a m)) ≡ m)
  pub leaf : (m : ℕ) → 0 < a m → lv (home m) ≡ 0 → LeafIn f m (a m)
  pub pool : (j : ℕ) → 0 < f j → (lv (home (f j)) ≡ 0) × (frame_no (a (f j)) ≡ pool_no j)

-- a word that is not 0 has a slot
pub two : {a k f lv : ℕ → ℕ} → Tree a k f lv → (m : ℕ) → 0 < a m → 2 ≤ m
two w zero h = omega (arith, w.none)
two w (suc zero) h = omega (arith, w.none)
two w (suc (suc m)) h = omega arith

-- the index into the root that the walk for x at depth d starts with
unfoldable pub top : ℕ → ℕ → ℕ
top zero x = x
top (suc d) x = top d (x / 512)

-- the tree of a store
abbrev pub TreeOf : Store → Type 0
TreeOf s = Tree (slot_word s.words) (mark s.tmarks) (mark s.fmarks) (level s.tmarks)

-- slot m is word m - 2, and word w has slot w + 2
pub slot_word_lem : (ws : List ℕ) (m : ℕ) → 2 ≤ m → slot_word ws m ≡ word ws (m - 2)
unfolding slot_word
slot_word_lem ws zero h = absurd (omega arith)
slot_word_lem ws (suc zero) h = absurd (omega arith)
slot_word_lem ws (suc (suc m)) h = let e : suc (suc m) - 2 ≡ m = omega arith in ap (word ws) (sym e)

pub word_slot : (ws : List ℕ) (w : ℕ) → slot_word ws (w + 2) ≡ word ws w
word_slot ws w = slot_word_lem ws (w + 2) (omega arith) ∙ ap (word ws) (add-sub_cancel w 2)

slot_two : (ws : List ℕ) (m : ℕ) → 0 < slot_word ws m → 2 ≤ m
unfolding slot_word
slot_two ws zero p = absurd (omega arith)
slot_two ws (suc zero) p = absurd (omega arith)
slot_two ws (suc (suc m)) p = omega arith

pub home_slot : (w : ℕ) → home (w + 2) ≡ w / 512
home_slot w = ap (λ (x : ℕ). x / 512) (add-sub_cancel w 2)

-- a level of 2 or 1, by its bounds
pub inner : (l : ℕ) → 1 ≤ l → l ≤ 2 → Inner l
inner zero p q = absurd (omega arith)
inner (suc zero) p q = inr refl
inner (suc (suc l)) p q = inl (omega arith)

pub inner_bounds : {l : ℕ} → Inner l → (1 ≤ l) × (l ≤ 2)
inner_bounds (inl e) = (omega arith, omega arith)
inner_bounds (inr e) = (omega arith, omega arith)

-- a number is 0, or it is not and A holds
pub zero_or : {A : Type 0} (x : ℕ) → (0 < x → A) → (x ≡ 0) ⊎ A
zero_or zero f = inl refl
zero_or (suc x) f = inr (f (omega arith))

pub or_zero : {A : Type 0} {x : ℕ} → 0 < x → (x ≡ 0) ⊎ A → A
or_zero p (inl e) = absurd (omega arith)
or_zero p (inr q) = q

is_zero : (x : ℕ) → (0 < x → ⊥) → x ≡ 0
is_zero zero f = refl
is_zero (suc x) f = absurd (f (omega arith))

-- the frame part of W4: if n lies in the held window, it is the number of a pool frame whose mark names the word
held : (fs : List ℕ) (n w m : ℕ) → w + 2 ≡ m → Outside n ⊎ Held fs n w → 0x10_0000 ≤ n → n < 0x12_0000 → (0x11_0000 ≤ n) × (mark fs (n - 0x11_0000) ≡ m)
held fs n w m h (inl (inl o)) b c = absurd (omega arith)
held fs n w m h (inl (inr o)) b c = absurd (omega arith)
held fs n w m h (inr q) b c = let e : n - 0x11_0000 ≡ q.frame = omega arith in (omega arith, ap (mark fs) e ∙ q.mark ∙ h)

held_of : (fs : List ℕ) (n w : ℕ) → (0x10_0000 ≤ n → n < 0x12_0000 → (0x11_0000 ≤ n) × (mark fs (n - 0x11_0000) ≡ w + 2)) → Outside n ⊎ Held fs n w
held_of fs n w h = go (dec_lt n 0x10_0000) (dec_lt n 0x12_0000)
  where
    go : Dec (n < 0x10_0000) → Dec (n < 0x12_0000) → Outside n ⊎ Held fs n w
    go (yes b) c = inl (inl b)
    go (no b) (no c) = inl (inr (omega arith))
    go (no b) (yes c) =
        let q = h (omega arith) c in
        inr (record { frame = n - 0x11_0000; there = in_range fs (n - 0x11_0000) (λ e. omega (arith, q.1)); number = omega (arith, q.0); mark = q.1 })

module _ (s : Store) where
  -- ---- from W1 to W5 to the tree
  module _ (c : WellFormed s) where
    table : (t : ℕ) → 2 ≤ mark s.tmarks t → Pointed s.words s.tmarks t
    table t h = c.w2 t (in_range s.tmarks t (λ e. omega arith)) h

    link : (t : ℕ) → 2 ≤ mark s.tmarks t
        → (slot_word s.words (mark s.tmarks t) ≡ pointer_to t) × (level s.tmarks (home (mark s.tmarks t)) ≡ suc (level s.tmarks t))
    link t h = (slot_word_lem s.words (mark s.tmarks t) h ∙ (table t h).word, (table t h).less)

    pool : (f : ℕ) → 0 < mark s.fmarks f
        → (level s.tmarks (home (mark s.fmarks f)) ≡ 0) × (frame_no (slot_word s.words (mark s.fmarks f)) ≡ pool_no f)
    pool f p =
        let q = or_zero p (c.w5 f (in_range s.fmarks f (λ e. omega arith))) in
        (q.level, ap frame_no (slot_word_lem s.words (mark s.fmarks f) q.from_two) ∙ q.names)

    -- a slot with a word that is not 0
    module _ (m : ℕ) (p : 0 < slot_word s.words m) where
      is : slot_word s.words m ≡ word s.words (m - 2)
      is = slot_word_lem s.words m (slot_two s.words m p)

      there : m - 2 < length s.words
      there = in_range s.words (m - 2) (λ e. omega (arith, is))

      back : m - 2 + 2 ≡ m
      back = omega (arith, slot_two s.words m p)

      used : level s.tmarks (home m) ≤ 2
      used =
          ⊎_elim (λ e. absurd (omega (arith, c.w1 (m - 2) there e, is)))
          (⊎_elim (λ e. omega (arith, level_root s.tmarks (home m) e)) (λ h. omega (arith, inner_bounds (table (home m) h).above, (table (home m) h).less)))
          (three (mark s.tmarks (home m)))

      half : level s.tmarks (home m) ≡ 2 → (m - 2) % 512 < 256
      half l =
          by_cases (dec_lt ((m - 2) % 512) 256) (λ h. h)
          (λ n. absurd (omega (arith, is, c.w3_root (m - 2) there (root_level s.tmarks (home m) l) (omega arith))))

      node : 1 ≤ level s.tmarks (home m)
          → (slot_word s.words m ≡ pointer_to (table_of (slot_word s.words m))) × (mark s.tmarks (table_of (slot_word s.words m)) ≡ m)
      node l =
          let q = or_zero (rw is at p) (c.w3 (m - 2) there (inner (level s.tmarks (home m)) l used)) in
          let e : table_of (slot_word s.words m) ≡ q.to = omega (arith, is) in
          (omega (arith, is), ap (mark s.tmarks) e ∙ q.mark ∙ back)

      leaf : level s.tmarks (home m) ≡ 0 → LeafIn (mark s.fmarks) m (slot_word s.words m)
      leaf l =
          let q = or_zero (rw is at p) (c.w4 (m - 2) there l) in
          rw is (record { valid = q.valid; small = q.clear; held = held s.fmarks (frame_no (word s.words (m - 2))) (m - 2) m back q.frame })

  pub tree_of : Sized s → WellFormed s → TreeOf s
  unfolding slot_word
  tree_of z c = record {
    none = refl;
    free = level_free s.tmarks;
    root = level_root s.tmarks;
    link = link c;
    used = used c;
    half = half c;
    node = node c;
    leaf = leaf c;
    pool = pool c;
  }

  -- ---- and back
  module _ (a : TreeOf s) where
    frame : (f : ℕ) → 0 < mark s.fmarks f → Named s.words s.tmarks s.fmarks f
    frame f p =
        let q = a.pool f p in
        let h = two a (mark s.fmarks f) (omega (arith, q.1)) in
        record { from_two = h; level = q.0; names = rw (slot_word_lem s.words (mark s.fmarks f) h) at q.1 }

    pointed : (t : ℕ) → 2 ≤ mark s.tmarks t → Pointed s.words s.tmarks t
    pointed t h =
        let q = a.link t h in
        let u = a.used (mark s.tmarks t) (omega (arith, q.0)) in
        record { word = sym (slot_word_lem s.words (mark s.tmarks t) h) ∙ q.0; above = inner (level s.tmarks (home (mark s.tmarks t))) (omega (arith, q.1)) u; less = q.1 }

    -- a word that is not 0
    module _ (w : ℕ) (p : 0 < word s.words w) where
      slotted : 0 < slot_word s.words (w + 2)
      slotted = rw (word_slot s.words w) p

      in_use : level s.tmarks (w / 512) ≤ 2
      in_use = rw (home_slot w) at (a.used (w + 2) slotted)

      low : level s.tmarks (w / 512) ≡ 2 → w % 512 < 256
      low l = rw (add-sub_cancel w 2) at (a.half (w + 2) slotted (rw (home_slot w) l))

      points : 1 ≤ level s.tmarks (w / 512) → Points s.words s.tmarks w
      points l =
          let q = rw (word_slot s.words w) at (a.node (w + 2) slotted (rw (home_slot w) l)) in
          record { to = table_of (word s.words w); there = in_range s.tmarks (table_of (word s.words w)) (λ e. omega (arith, q.1)); word = q.0; mark = q.1 }

      names : level s.tmarks (w / 512) ≡ 0 → Leaf s.words s.fmarks w
      names l =
          let q = rw (word_slot s.words w) at (a.leaf (w + 2) slotted (rw (home_slot w) l)) in
          record { valid = q.valid; clear = q.small; frame = held_of s.fmarks (frame_no (word s.words w)) w q.held }

  pub well_formed_of : Sized s → TreeOf s → WellFormed s
  well_formed_of z a = record {
    w1 = λ w l e. is_zero (word s.words w) (λ p. omega (arith, in_use a w p, a.free (w / 512) e));
    w2 = λ t l h. pointed a t h;
    w3 = λ w l i. zero_or (word s.words w) (λ p. points a w p (inner_bounds i).0);
    w3_root = λ w l e h. is_zero (word s.words w) (λ p. omega (arith, low a w p (a.root (w / 512) e)));
    w4 = λ w l e. zero_or (word s.words w) (λ p. names a w p e);
    w5 = λ f l. zero_or (mark s.fmarks f) (frame a f);
  }

  -- the two say the same
  pub same_claims : Sized s → WellFormed s ↔ TreeOf s
  same_claims z = (tree_of z, well_formed_of z)
