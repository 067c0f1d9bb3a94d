-- Walks in a tree of tables: which slots they read, and that each slot of a table in use is read in one way. Assumes nothing.
use mathlib.Core.Path.{◌≡◌, refl, sym, ap, ◌∙◌}
use mathlib.Core.Logic.{⊎_elim}
use Prim.Native.Nat.{ℕ, zero, suc, ◌+◌, ◌-◌, ◌*◌, ◌/◌, ◌%◌, ◌^◌, ◌≤◌, ◌<◌}
use native.Mathlib.Omega.{arith}
use Rattle.store.specs.Store.{pointer_to}
use Rattle.store.specs.Level.{home}
use Rattle.store.specs.Walk.{table_of, slot_in, slot}
use Rattle.store.proofs.Levels.{three}
use Rattle.store.proofs.Tree.{Tree, two, top}

-- the lower half of a root is that of the pages below 2^26
pub top_of : (p : ℕ) → p < 2 ^ 26 → top 2 p < 256
unfolding top
top_of p h = omega arith

pub page_of_lem : (p : ℕ) → top 2 p < 256 → p < 2 ^ 26
unfolding top
page_of_lem p h = omega arith

module _ {a k f lv : ℕ → ℕ} (w : Tree a k f lv) where
  -- ---- tables

  -- what lies above a table whose mark names a word
  pub parent : (t : ℕ) → 2 ≤ k t → (lv (home (k t)) ≡ suc (lv t)) × (lv t ≤ 1)
  parent t h = let q = w.link t h in (q.1, omega (arith, q.1, w.used (k t) (omega (arith, q.0))))

  -- a table of level 2 is a root, and one of level 1 or 0 hangs below a word
  pub is_root : (t : ℕ) → lv t ≡ 2 → k t ≡ 1
  is_root t l =
      ⊎_elim (λ e. absurd (omega (arith, w.free t e))) (⊎_elim (λ e. e) (λ h. absurd (omega (arith, parent t h)))) (three (k t))

  pub hangs : (t : ℕ) → lv t ≤ 1 → 2 ≤ k t
  hangs t l =
      ⊎_elim (λ e. absurd (omega (arith, w.free t e))) (⊎_elim (λ e. absurd (omega (arith, w.root t e))) (λ h. h)) (three (k t))

  -- ---- from a word to a word of the table it points to

  pub below : (m : ℕ) → 0 < a m → 1 ≤ lv (home m) → (i : ℕ) → i < 512
      → (k (home (slot_in (a m) i)) ≡ m) × (suc (lv (home (slot_in (a m) i))) ≡ lv (home m)) × ((slot_in (a m) i - 2) % 512 ≡ i)
  below m p l i h =
      let q = w.node m p l in
      let e : home (slot_in (a m) i) ≡ table_of (a m) = omega (arith, q.0) in
      let u = parent (table_of (a m)) (omega (arith, q.1, two w m p)) in
      rw e (q.1, sym u.0 ∙ ap (λ (x : ℕ). lv (home x)) q.1, omega (arith, q.0))

  -- ---- the slots of a walk

  -- a slot of depth d lies in a table of level 2 - d
  pub depth : (r d x : ℕ) → k r ≡ 1 → top d x < 512 → d ≤ 2 → 2 ≤ slot a r d x → lv (home (slot a r d x)) + d ≡ 2
  unfolding slot top
  depth r zero x rr h b s =
      let e : home (512 * r + x + 2) ≡ r = omega arith in
      omega (arith, ap lv e, w.root r rr)
  depth r (suc d) x rr h b s =
      let m : ℕ = slot a r d (x / 512) in
      let p : 0 < a m = omega arith in
      let ih = depth r d (x / 512) rr h (omega arith) (two w m p) in
      omega (arith, ih, (below m p (omega (arith, ih)) (x % 512) (omega arith)).1)

  -- under an entry that is there, there is a slot
  pub reach : (r d x : ℕ) → k r ≡ 1 → top (suc d) x < 512 → d ≤ 1 → 0 < a (slot a r d (x / 512)) → 2 ≤ slot a r (suc d) x
  unfolding slot top
  reach r d x rr h b p =
      let m : ℕ = slot a r d (x / 512) in
      omega (arith, (w.node m p (omega (arith, depth r d (x / 512) rr h (omega arith) (two w m p)))).0)

  -- above a slot there is an entry
  pub carried : (r d x : ℕ) → 2 ≤ slot a r (suc d) x → 0 < a (slot a r d (x / 512))
  unfolding slot
  carried r d x s = omega arith

  -- what lies above a slot of depth d + 1
  pub above : (r d x : ℕ) → k r ≡ 1 → top d (x / 512) < 512 → suc d ≤ 2 → 2 ≤ slot a r (suc d) x
      → (k (home (slot a r (suc d) x)) ≡ slot a r d (x / 512)) × (2 ≤ slot a r d (x / 512)) × ((slot a r (suc d) x - 2) % 512 ≡ x % 512)
  unfolding slot
  above r d x rr h b s =
      let m : ℕ = slot a r d (x / 512) in
      let p : 0 < a m = omega arith in
      let q = below m p (omega (arith, depth r d (x / 512) rr h (omega arith) (two w m p))) (x % 512) (omega arith) in
      (q.0, two w m p, q.2)

  root_home : (r x : ℕ) → k r ≡ 1 → top 0 x < 512 → k (home (slot a r 0 x)) ≡ 1
  unfolding slot top
  root_home r x rr h = let e : home (512 * r + x + 2) ≡ r = omega arith in ap k e ∙ rr

  -- a slot is read for one root, at one depth and for one number only
  pub unique : (r d x r' d' x' : ℕ) → k r ≡ 1 → k r' ≡ 1 → top d x < 512 → top d' x' < 512 → d ≤ 2 → d' ≤ 2
      → 2 ≤ slot a r d x → slot a r d x ≡ slot a r' d' x' → (d ≡ d') × (r ≡ r') × (x ≡ x')
  unfolding top slot
  unique r zero x r' zero x' rr rr' h h' b b' s e = omega arith
  unique r zero x r' (suc d') x' rr rr' h h' b b' s e = omega (arith, above r' d' x' rr' h' b' (omega arith), root_home r x rr h, ap (λ (m : ℕ). k (home m)) e)
  unique r (suc d) x r' zero x' rr rr' h h' b b' s e = omega (arith, above r d x rr h b s, root_home r' x' rr' h', ap (λ (m : ℕ). k (home m)) e)
  unique r (suc d) x r' (suc d') x' rr rr' h h' b b' s e =
      let u = above r d x rr h b s in
      let u' = above r' d' x' rr' h' b' (omega arith) in
      let ih = unique r d (x / 512) r' d' (x' / 512) rr rr' h h' (omega arith) (omega arith) u.1 (sym u.0 ∙ ap (λ (m : ℕ). k (home m)) e ∙ u'.0) in
      (omega (arith, ih), ih.1, omega (arith, ih, u.2, u'.2, ap (λ (m : ℕ). (m - 2) % 512) e))

  -- ---- every slot of a table in use is read

  -- a slot of a root is read at once
  read_root : (m : ℕ) → 2 ≤ m → (top 0 ((m - 2) % 512) < 512) × (slot a (home m) 0 ((m - 2) % 512) ≡ m)
  unfolding slot top
  read_root m h = (omega arith, omega arith)

  -- where the walk for y finds the pointer to the table of slot m, the walk for number (m - 2) % 512 below y reads m
  read_below : (r d y m x : ℕ) → 2 ≤ m → a (slot a r d y) ≡ pointer_to (home m) → x ≡ 512 * y + (m - 2) % 512
      → (top (suc d) x ≡ top d y) × (slot a r (suc d) x ≡ m)
  unfolding slot top
  read_below r d y m x h e q =
      let u : x / 512 ≡ y = omega arith in
      let v : a (slot a r d (x / 512)) ≡ pointer_to (home m) = rw u e in
      (ap (top d) u, omega arith)

  pub placed : (d m : ℕ) → 2 ≤ m → lv (home m) + d ≡ 2 → (r : ℕ) × (x : ℕ) × (k r ≡ 1) × (top d x < 512) × (slot a r d x ≡ m)
  placed zero m h l = (home m, (m - 2) % 512, is_root (home m) (omega arith), (read_root m h).0, (read_root m h).1)
  placed (suc d) m h l = go (placed d (k (home m)) u (omega (arith, w.link (home m) u)))
    where
      u : 2 ≤ k (home m)
      u = hangs (home m) (omega arith)

      go : (r : ℕ) × (x : ℕ) × (k r ≡ 1) × (top d x < 512) × (slot a r d x ≡ k (home m))
          → (r : ℕ) × (x : ℕ) × (k r ≡ 1) × (top (suc d) x < 512) × (slot a r (suc d) x ≡ m)
      go (r, y, rr, b, e) =
          let q = read_below r d y m (512 * y + (m - 2) % 512) h (ap a e ∙ (w.link (home m) u).0) refl in
          (r, 512 * y + (m - 2) % 512, rr, omega (arith, q.0), q.1)

  -- and where a word is there, or a table below one, the walk starts in the lower half of the root
  pub low : (r d x : ℕ) → k r ≡ 1 → top d x < 512 → 0 < a (slot a r d x) → top d x < 256
  unfolding slot top
  low r zero x rr h p =
      let e : home (512 * r + x + 2) ≡ r = omega arith in
      omega (arith, w.half (512 * r + x + 2) p (ap lv e ∙ w.root r rr))
  low r (suc d) x rr h p = low r d (x / 512) rr h (carried r d x (two w (slot a r (suc d) x) p))

  pub low_below : (r d x : ℕ) → k r ≡ 1 → top (suc d) x < 512 → 2 ≤ slot a r (suc d) x → top (suc d) x < 256
  unfolding top
  low_below r d x rr h s = low r d (x / 512) rr h (carried r d x s)
