-- A tree of tables in which one word of a table of level 0 changes, alone or together with the marks of frames. Assumes nothing.
use mathlib.Core.Path.{◌≡◌, refl, sym, ap, ◌∙◌}
use Prim.Native.Nat.{ℕ, ◌-◌, ◌≤◌, ◌<◌}
use native.Mathlib.Omega.{arith}
use Rattle.store.specs.Store.{frame_no, pool_no}
use Rattle.store.specs.Level.{home}
use Rattle.store.proofs.Tree.{LeafIn, Tree, two}
use Rattle.walk.proofs.Spans.{Upd}
use Rattle.enter.proofs.Updates.{at_or}

module _ {a k f lv : ℕ → ℕ} (a' f' : ℕ → ℕ) (m v : ℕ) (w : Tree a k f lv) (ua : Upd a a' m v) (m2 : 2 ≤ m) (l0 : lv (home m) ≡ 0) where
  -- what is to be shown of the new word, of the others, and of the frames in use
  module _ (new : 0 < v → LeafIn f' m v) (others : (x : ℕ) → (x ≡ m → ⊥) → LeafIn f x (a x) → 2 ≤ x → LeafIn f' x (a x))
      (pools : (j : ℕ) → 0 < f' j → (lv (home (f' j)) ≡ 0) × (frame_no (a' (f' j)) ≡ pool_no j)) where
    pub tree_leaf : Tree a' k f' lv
    tree_leaf = record {
      none = omega (arith, w.none, ua.other 0 (λ e. omega arith), ua.other 1 (λ e. omega arith));
      free = w.free;
      root = w.root;
      link = λ t h. let p = w.link t h in (ua.other (k t) (λ e. omega (arith, ap (λ (x : ℕ). lv (home x)) e, p.1)) ∙ p.0, p.1);
      used = at_or m (λ h. omega arith) (λ x n h. w.used x (omega (arith, ua.other x n)));
      half = at_or m (λ h e. omega arith) (λ x n h e. w.half x (omega (arith, ua.other x n)) e);
      node = at_or m (λ h e. absurd (omega arith)) (λ x n h e. rw (ua.other x n) (w.node x (omega (arith, ua.other x n)) e));
      leaf = at_or m (λ h e. rw ua.same (new (omega (arith, ua.same)))) (λ x n h e.
          let p : 0 < a x = omega (arith, ua.other x n) in
          rw (ua.other x n) (others x n (w.leaf x p e) (two w x p)));
      pool = pools;
    }

  other_frame : (j : ℕ) → Upd f f' j (f' j) → (x : ℕ) → (x ≡ f j → ⊥) → LeafIn f x (a x) → 2 ≤ x → LeafIn f' x (a x)
  other_frame j uf x n l h = record {
    valid = l.valid;
    small = l.small;
    held = λ p q. let b = l.held p q in (b.0, uf.other (frame_no (a x) - 0x11_0000) (λ e. n (sym b.1 ∙ ap f e)) ∙ b.1);
  }

  -- pool frame j, which is free, is given to a page that was not mapped
  pub tree_pooled : (j : ℕ) → a m ≡ 0 → f j ≡ 0 → Upd f f' j m → frame_no v ≡ pool_no j → LeafIn f' m v → Tree a' k f' lv
  tree_pooled j am fj uf e l =
      tree_leaf (λ _. l) (λ x n q h. other_frame j (record { same = refl; other = uf.other }) x (λ c. omega arith) q h)
      (at_or j (λ h. rw (uf.same, ua.same) (l0, e)) (λ i n h.
      let q = w.pool i (omega (arith, uf.other i n)) in
      rw (uf.other i n) (q.0, ap frame_no (ua.other (f i) (λ c. omega (arith, ap a c, q.1))) ∙ q.1)))

  -- the page of slot m is unmapped, and its pool frame j is free again
  pub tree_unpooled : (j : ℕ) → v ≡ 0 → f j ≡ m → Upd f f' j 0 → Tree a' k f' lv
  tree_unpooled j v0 fj uf =
      tree_leaf (λ h. absurd (omega arith)) (λ x n q h. other_frame j (record { same = refl; other = uf.other }) x (λ e. n (e ∙ fj)) q h)
      (at_or j (λ h. absurd (omega (arith, uf.same))) (λ i n h.
      let q = w.pool i (omega (arith, uf.other i n)) in
      rw (uf.other i n)
      (q.0, ap frame_no (ua.other (f i) (λ c. n (omega (arith, ap a c, ap a fj, q.1, (w.pool j (omega arith)).1)))) ∙ q.1)))

-- a word that was 0 gets the entry v, and no mark changes
module _ {a k f lv : ℕ → ℕ} (a' : ℕ → ℕ) (m v : ℕ) (w : Tree a k f lv) (ua : Upd a a' m v) (fm : a m ≡ 0) (m2 : 2 ≤ m) (l0 : lv (home m) ≡ 0) (ok : LeafIn f m v) where
  pub tree_stored : Tree a' k f lv
  tree_stored =
      tree_leaf a' f m v w ua m2 l0 (λ h. ok) (λ x n q h. q)
      (λ j h. let p = w.pool j h in (p.0, ap frame_no (ua.other (f j) (λ e. omega (arith, ap a e, p.1))) ∙ p.1))
