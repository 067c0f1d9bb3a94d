-- A tree of tables in which all tables of a root are given back, and the walks from the other roots. Assumes nothing.
use mathlib.Core.Path.{◌≡◌, refl, sym, ap, ◌∙◌, subst}
use mathlib.Core.Bool.{Bool, true, false, false≢true}
use Prim.Native.Nat.{ℕ, zero, suc, ◌+◌, ◌*◌, ◌/◌, ◌%◌, ◌≤◌, ◌<◌}
use native.Mathlib.Decide.{ℕ_discrete}
use native.Mathlib.Omega.{arith}
use Rattle.store.specs.Store.{pointer_to, frame_no}
use Rattle.store.specs.Level.{home}
use Rattle.store.specs.Walk.{table_of, slot_in, slot}
use Rattle.store.proofs.Tree.{Tree, two, top}
use Rattle.store.proofs.Walk.{parent, above}
use Rattle.release.specs.Free.{belongs}
use Rattle.release.proofs.Truth.{not_true, by_truth}
use Rattle.release.proofs.Belongs.{up, Under, under_self, under_up, one_above, belongs_under, under_belongs}

-- g' is v where p says so, and g elsewhere
pub record Change (p : ℕ → Bool) (v : ℕ) (g g' : ℕ → ℕ) : Type 0 where
  pub there : (x : ℕ) → p x ≡ true → g' x ≡ v
  pub elsewhere : (x : ℕ) → p x ≡ false → g' x ≡ g x

-- the table of each slot that a walk reads lies below the walk's root
module _ {a k f lv : ℕ → ℕ} (w : Tree a k f lv) (r : ℕ) (rr : k r ≡ 1) where
  pub walk_under : (d x : ℕ) → top d x < 512 → d ≤ 2 → 2 ≤ slot a r d x → Under w r (home (slot a r d x))
  unfolding slot top
  walk_under zero x h b s = under_self w r (home (512 * r + x + 2)) (omega arith)
  walk_under (suc d) x h b s =
      let q = above w r d x rr h b s in
      let m : ℕ = slot_in (a (slot a r d (x / 512))) (x % 512) in
      under_up w r (home m) (omega (arith, q)) (subst (λ (y : ℕ). Under w r (home y)) (sym q.0) (walk_under d (x / 512) h (omega arith) q.1))

-- all tables that belong to root r are given back
module _ {a k f lv : ℕ → ℕ} (w : Tree a k f lv) (r : ℕ) (rr : k r ≡ 1) where
  abbrev p : ℕ → Bool
  p = belongs k 3 r

  pub under_of : (u : ℕ) → Under w r u → p u ≡ true
  under_of u = under_belongs w 2 r u (w.root r rr) (omega arith)

  -- a table belongs to the root where the one above it does, and so back
  up_too : (u : ℕ) → 2 ≤ k u → p u ≡ true → p (home (k u)) ≡ true
  unfolding up
  up_too u h e = let q = belongs_under w 3 r u e in go q.steps q.levels q.is
    where
      go : (n : ℕ) → lv u + n ≡ lv r → up k n u ≡ r → p (home (k u)) ≡ true
      go zero l s = absurd (omega (arith, ap k s))
      go (suc n) l s = under_of (home (k u)) (record { steps = n; levels = omega (arith, parent w u h); is = s })

  down_too : (u : ℕ) → 2 ≤ k u → p (home (k u)) ≡ true → p u ≡ true
  down_too u h e = under_of u (under_up w r u h (belongs_under w 3 r (home (k u)) e))

  module _ {a' : ℕ → ℕ} (ca : Change (λ m. p (home m)) 0 a a') where
    -- no word grows
    shrinks : (x : ℕ) → a' x ≤ a x
    shrinks x = by_truth (p (home x)) (λ e. omega (arith, ca.there x e)) (λ e. omega (arith, ca.elsewhere x e))

    -- ---- the tree, where no table of the root holds a word of level 0

    module _ {k' lv' : ℕ → ℕ} (ck : Change p 0 k k') (cl : Change p 3 lv lv') (bare : (m : ℕ) → 0 < a m → lv (home m) ≡ 0 → p (home m) ≡ true → ⊥) where
      -- a word that is still there afterwards
      left : (x : ℕ) → 0 < a' x → (p (home x) ≡ false) × (a' x ≡ a x) × (0 < a x) × (lv' (home x) ≡ lv (home x))
      left x h =
          let n = not_true (p (home x)) (λ e. omega (arith, ca.there x e)) in
          (n, ca.elsewhere x n, omega (arith, ca.elsewhere x n), cl.elsewhere (home x) n)

      -- a table that is still in use
      in_use : (t : ℕ) → 0 < k' t → (p t ≡ false) × (k' t ≡ k t) × (lv' t ≡ lv t)
      in_use t h =
          let n = not_true (p t) (λ e. omega (arith, ck.there t e)) in
          (n, ck.elsewhere t n, cl.elsewhere t n)

      link : (t : ℕ) → 2 ≤ k' t → (a' (k' t) ≡ pointer_to t) × (lv' (home (k' t)) ≡ suc (lv' t))
      link t h =
          let u = in_use t (omega arith) in
          let g : 2 ≤ k t = omega (arith, u.1) in
          let q = w.link t g in
          let n = not_true (p (home (k t))) (λ e. false≢true (sym u.0 ∙ down_too t g e)) in
          rw u.1 (ca.elsewhere (k t) n ∙ q.0, omega (arith, cl.elsewhere (home (k t)) n, q.1, u.2))

      node : (m : ℕ) → 0 < a' m → 1 ≤ lv' (home m) → (a' m ≡ pointer_to (table_of (a' m))) × (k' (table_of (a' m)) ≡ m)
      node m h l =
          let u = left m h in
          let q = w.node m u.2 (omega (arith, u.3)) in
          let g : 2 ≤ k (table_of (a m)) = omega (arith, q.1, two w m u.2) in
          let n = not_true (p (table_of (a m))) (λ e. false≢true (sym u.0 ∙ ap (λ (x : ℕ). p (home x)) (sym q.1) ∙ up_too (table_of (a m)) g e)) in
          rw u.1 (q.0, ck.elsewhere (table_of (a m)) n ∙ q.1)

      pub tree_without : Tree a' k' f lv'
      tree_without = record {
        none = omega (arith, w.none, shrinks 0, shrinks 1);
        free = λ t e. by_truth (p t) (cl.there t) (λ n. cl.elsewhere t n ∙ w.free t (sym (ck.elsewhere t n) ∙ e));
        root = λ t e. let u = in_use t (omega arith) in u.2 ∙ w.root t (sym u.1 ∙ e);
        link = link;
        used = λ m h. omega (arith, (left m h).3, w.used m (left m h).2);
        half = λ m h e. w.half m (left m h).2 (omega (arith, (left m h).3));
        node = node;
        leaf = λ m h e. let u = left m h in rw u.1 (w.leaf m u.2 (omega (arith, u.3)));
        pool = λ j h.
            let q = w.pool j h in
            let n = not_true (p (home (f j))) (bare (f j) (omega (arith, q.1)) q.0) in
            (cl.elsewhere (home (f j)) n ∙ q.0, ap frame_no (ca.elsewhere (f j) n) ∙ q.1);
      }

    -- ---- walks from another root

    module _ (r' : ℕ) (rr' : k r' ≡ 1) (n : r' ≡ r → ⊥) where
      -- the word that a walk finds stays
      stays : (d x : ℕ) → top d x < 512 → d ≤ 2 → a' (slot a r' d x) ≡ a (slot a r' d x)
      stays d x h b = go (ℕ_discrete (a (slot a r' d x)) 0)
        where
          go : Dec (a (slot a r' d x) ≡ 0) → a' (slot a r' d x) ≡ a (slot a r' d x)
          go (yes z) = omega (arith, shrinks (slot a r' d x))
          go (no g) =
              ca.elsewhere (slot a r' d x)
              (not_true (p (home (slot a r' d x))) (λ e.
              n (one_above w r' r (home (slot a r' d x)) (w.root r' rr' ∙ sym (w.root r rr)) (walk_under w r' rr' d x h b (two w (slot a r' d x) (omega arith)))
              (belongs_under w 3 r (home (slot a r' d x)) e))))

      same_slot : (d x : ℕ) → top d x < 512 → d ≤ 2 → slot a' r' d x ≡ slot a r' d x
      unfolding slot top
      same_slot zero x h b = refl
      same_slot (suc d) x h b = ap (λ (y : ℕ). slot_in y (x % 512)) (ap a' (same_slot d (x / 512) h (omega arith)) ∙ stays d (x / 512) h (omega arith))

      pub same_walk : (d x : ℕ) → top d x < 512 → d ≤ 2 → a' (slot a' r' d x) ≡ a (slot a r' d x)
      same_walk d x h b = ap a' (same_slot d x h b) ∙ stays d x h b
