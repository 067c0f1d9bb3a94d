-- In a well-formed store each table, each pool frame and each word has one owner. Assumes nothing.
use mathlib.Core.Path.{◌≡◌, refl, sym, ◌∙◌}
use mathlib.Core.Logic.{◌⊎◌, inl, inr, ⊎_elim}
use Prim.Native.Nat.{ℕ, zero, suc, ◌+◌, ◌-◌, ◌/◌, ◌≤◌, ◌<◌}
use native.Mathlib.Omega.{arith}
use Rattle.store.specs.Store.{Store, Sized, word, mark, frame_no}
use Rattle.store.specs.Level.{home, level}
use Rattle.store.specs.WellFormed.{WellFormed}
use Rattle.store.specs.Walk.{slot_word, table_of, slot}
use Rattle.store.specs.Owners.{PointsTo, NamesFrame, ReadFor, Below, self, step}
use Rattle.store.proofs.Levels.{three}
use Rattle.store.proofs.Scans.{in_range}
use Rattle.store.proofs.Tree.{TreeOf, tree_of, word_slot, home_slot, inner_bounds, or_zero, top}
use Rattle.store.proofs.Walk.{parent, is_root, hangs, unique, placed, low_below, page_of_lem, top_of}

-- what a table is below is a root
pub below_root : {s : Store} {r t : ℕ} → Below s r t → mark s.tmarks r ≡ 1
below_root (self h) = h
below_root (step b p) = below_root b

module _ (s : Store) (z : Sized s) (c : WellFormed s) where
  a : TreeOf s
  a = tree_of s z c

  -- ---- tables

  -- a table's mark names the word that points to it
  pub owner : {w t : ℕ} → PointsTo s w t → mark s.tmarks t ≡ w + 2
  owner {w} {t} p =
      let h : 0 < slot_word s.words (w + 2) = rw (word_slot s.words w, p.word) (omega arith) in
      let e : table_of (slot_word s.words (w + 2)) ≡ t = rw (word_slot s.words w, p.word) (omega arith) in
      rw e at (a.node (w + 2) h (rw (home_slot w) (inner_bounds p.inner).0)).1

  -- a table marked m of 2 or more is pointed at by word m - 2
  pub pointed : (t : ℕ) → 2 ≤ mark s.tmarks t → PointsTo s (mark s.tmarks t - 2) t
  pointed t h =
      let q = c.w2 t (in_range s.tmarks t (λ e. omega arith)) h in
      record { inner = q.above; word = q.word }

  -- and by no other: two words that point to the same table are the same word
  pub one_owner : {w v t : ℕ} → PointsTo s w t → PointsTo s v t → w ≡ v
  one_owner p q = omega (arith, owner p, owner q)

  -- a root is pointed at by none, nor is a free table
  pub no_owner : {w t : ℕ} → mark s.tmarks t < 2 → PointsTo s w t → ⊥
  no_owner h p = omega (arith, owner p)

  -- ---- pool frames

  -- a frame's mark names the word that names the frame
  pub frame_owner : {w f : ℕ} → NamesFrame s w f → mark s.fmarks f ≡ w + 2
  frame_owner {w} {f} p =
      let h : 0 < slot_word s.words (w + 2) = rw (word_slot s.words w) (omega (arith, p.number)) in
      let q = rw (word_slot s.words w) at (a.leaf (w + 2) h (rw (home_slot w) p.level)) in
      let e : frame_no (word s.words w) - 0x11_0000 ≡ f = omega (arith, p.number) in
      rw e at (q.held (omega (arith, p.number)) (omega (arith, p.number, p.there, z.frames_to))).1

  -- a frame in use is named by the word of its mark
  pub frame_named : (f : ℕ) → 0 < mark s.fmarks f → NamesFrame s (mark s.fmarks f - 2) f
  frame_named f h =
      let l = in_range s.fmarks f (λ e. omega arith) in
      let q = or_zero h (c.w5 f l) in
      record { level = q.level; there = l; number = q.names }

  -- and by no other: two words of level 0 that name the same pool frame are the same word
  pub one_frame_owner : {w v f : ℕ} → NamesFrame s w f → NamesFrame s v f → w ≡ v
  one_frame_owner p q = omega (arith, frame_owner p, frame_owner q)

  -- a free frame is named by none
  pub no_frame_owner : {w f : ℕ} → mark s.fmarks f ≡ 0 → NamesFrame s w f → ⊥
  no_frame_owner h p = omega (arith, frame_owner p)

  -- ---- words of level 0

  -- each is read for a root and a page
  pub some_place : (w : ℕ) → level s.tmarks (w / 512) ≡ 0 → (r : ℕ) × (p : ℕ) × ReadFor s w r p
  some_place w l = go (placed a 2 (w + 2) (omega arith) (rw (home_slot w, l)))
    where
      go : (r : ℕ) × (p : ℕ) × (mark s.tmarks r ≡ 1) × (top 2 p < 512) × (slot (slot_word s.words) r 2 p ≡ w + 2) → (r : ℕ) × (p : ℕ) × ReadFor s w r p
      go (r, p, rr, h, e) = (r, p, record { root = rr; page = page_of_lem p (low_below a r 1 p rr h (omega arith)); slot = e })

  -- and for no other
  pub one_place : {w r p r' p' : ℕ} → ReadFor s w r p → ReadFor s w r' p' → (r ≡ r') × (p ≡ p')
  one_place {r = r} {p = p} {r' = r'} {p' = p'} q q' =
      let h = top_of p q.page in
      let h' = top_of p' q'.page in
      let u = unique a r 2 p r' 2 p' q.root q'.root (omega arith) (omega arith) (omega arith) (omega arith) (omega (arith, q.slot)) (q.slot ∙ sym q'.slot) in
      (u.1, u.2)

  -- ---- roots

  -- what is below a root is that root, or hangs by its mark from a table below it
  above_of : {r t : ℕ} → Below s r t → ((t ≡ r) × (mark s.tmarks t ≡ 1)) ⊎ ((2 ≤ mark s.tmarks t) × Below s r (home (mark s.tmarks t)))
  above_of (self h) = inl (refl, h)
  above_of (step {w} b p) = inr (omega (arith, owner p), rw (owner p, home_slot w) b)

  -- each table in use is below a root
  up : (n t : ℕ) → level s.tmarks t + n ≡ 2 → (r : ℕ) × Below s r t
  up zero t l = (t, self (is_root a t (omega arith)))
  up (suc n) t l =
      let h = hangs a t (omega arith) in
      let b = up n (home (mark s.tmarks t)) (omega (arith, parent a t h)) in
      (b.0, step b.1 (pointed t h))

  pub some_root : (t : ℕ) → (mark s.tmarks t ≡ 0 → ⊥) → (r : ℕ) × Below s r t
  some_root t n =
      ⊎_elim (λ e. absurd (n e)) (⊎_elim (λ e. (t, self e)) (λ h. up (2 - level s.tmarks t) t (omega (arith, parent a t h)))) (three (mark s.tmarks t))

  -- and below no other
  pub one_root : {r r' t : ℕ} → Below s r t → Below s r' t → r ≡ r'
  one_root (self h) b = ⊎_elim (λ e. e.0) (λ q. absurd (omega (arith, q.0))) (above_of b)
  one_root (step {w} d p) b = ⊎_elim (λ e. absurd (omega (arith, owner p, e.1))) (λ q. one_root d (rw (owner p, home_slot w) at q.1)) (above_of b)

  -- a free table is below none
  pub no_root : {r t : ℕ} → mark s.tmarks t ≡ 0 → Below s r t → ⊥
  no_root h b = ⊎_elim (λ e. omega (arith, e.1)) (λ q. omega (arith, q.0)) (above_of b)
