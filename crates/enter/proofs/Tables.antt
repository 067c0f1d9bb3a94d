-- A tree of tables in which one table changes: it is hung, or made a root. Assumes nothing.
use mathlib.Core.Path.{◌≡◌, refl, sym, ap, ◌∙◌, subst, fun_ext}
use mathlib.Core.List.{List}
use Prim.Native.Nat.{ℕ, zero, suc, ◌+◌, ◌-◌, ◌%◌, ◌≤◌, ◌<◌}
use native.Mathlib.Omega.{arith}
use Rattle.store.specs.Store.{mark, pointer_to, frame_no}
use Rattle.store.specs.Level.{home, under, climb, level}
use Rattle.store.specs.Walk.{table_of}
use Rattle.store.proofs.Tree.{Tree, two}
use Rattle.store.proofs.Walk.{parent}
use Rattle.walk.proofs.Spans.{Upd}
use Rattle.enter.proofs.Updates.{at_or}

-- ---- whatever levels a tree has, they are those that the marks give

under_link : (m l : ℕ) → 2 ≤ m → suc l ≤ 2 → under m (suc l) ≡ l
under_link (suc (suc m)) zero h q = refl
under_link (suc (suc m)) (suc zero) h q = refl
under_link (suc (suc m)) (suc (suc l)) h q = absurd (omega arith)
under_link zero l h q = absurd (omega arith)
under_link (suc zero) l h q = absurd (omega arith)

module _ {a k f lv : ℕ → ℕ} (w : Tree a k f lv) where
  climb_is : (n t : ℕ) → 3 ≤ n + lv t → climb k n t ≡ lv t
  unfolding climb
  climb_is zero t h = go (k t) refl
    where
      go : (c : ℕ) → k t ≡ c → 3 ≡ lv t
      go zero e = sym (w.free t e)
      go (suc zero) e = absurd (omega (arith, w.root t e))
      go (suc (suc c)) e = absurd (omega (arith, parent w t (omega arith)))
  climb_is (suc n) t h = go (k t) refl (climb_is n (home (k t)))
    where
      go : (c : ℕ) → k t ≡ c → (3 ≤ n + lv (home (k t)) → climb k n (home (k t)) ≡ lv (home (k t))) → under (k t) (climb k n (home (k t))) ≡ lv t
      go zero e ih = rw e (sym (w.free t e))
      go (suc zero) e ih = rw e (sym (w.root t e))
      go (suc (suc c)) e ih =
          let l = parent w t (omega arith) in
          rw (ih (omega (arith, l)), l.0) (under_link (k t) (lv t) (omega arith) (omega (arith, l.1)))

pub leveled : {a f lv : ℕ → ℕ} (ms : List ℕ) → Tree a (mark ms) f lv → Tree a (mark ms) f (level ms)
unfolding level
leveled {a} {f} ms w = subst (λ (l : ℕ → ℕ). Tree a (mark ms) f l) (fun_ext (λ t. sym (climb_is w 3 t (omega arith)))) w

-- ---- a free table t is hung in slot m, which held 0, of a table of level 2 or 1

module _ (a a' k k' f lv lv' : ℕ → ℕ) (m t : ℕ) (w : Tree a k f lv) (ua : Upd a a' m (pointer_to t)) (uk : Upd k k' t m) (ul : Upd lv lv' t (lv (home m) - 1))
    (ft : k t ≡ 0) (fm : a m ≡ 0) (m2 : 2 ≤ m) (l1 : 1 ≤ lv (home m)) (l2 : lv (home m) ≤ 2) (hf : lv (home m) ≡ 2 → (m - 2) % 512 < 256) where
  kept : (x : ℕ) → lv x ≤ 2 → lv' x ≡ lv x
  kept x h = ul.other x (λ e. omega (arith, ap lv e, w.free t ft))

  -- a word that was there before
  old : (x : ℕ) → (x ≡ m → ⊥) → 0 < a' x → (a' x ≡ a x) × (0 < a x) × (lv' (home x) ≡ lv (home x))
  old x n h =
      let e : a' x ≡ a x = ua.other x n in
      let p : 0 < a x = omega arith in
      (e, p, kept (home x) (w.used x p))

  old_link : (x : ℕ) → (x ≡ t → ⊥) → 2 ≤ k x → (a' (k x) ≡ pointer_to x) × (lv' (home (k x)) ≡ suc (lv' x))
  old_link x n h =
      let p = w.link x h in (
        ua.other (k x) (λ e. omega (arith, ap a e, p.0)) ∙ p.0,
        omega (arith, kept (home (k x)) (w.used (k x) (omega (arith, p.0))), p.1, ul.other x n),
      )

  old_node : (x : ℕ) → 0 < a x → 1 ≤ lv (home x) → (a x ≡ pointer_to (table_of (a x))) × (k' (table_of (a x)) ≡ x)
  old_node x p l =
      let q = w.node x p l in
      (q.0, uk.other (table_of (a x)) (λ e. omega (arith, ap k e, q.1, two w x p)) ∙ q.1)

  table_of_lem : table_of (pointer_to t) ≡ t
  table_of_lem = omega arith

  pub tree_linked : Tree a' k' f lv'
  tree_linked = record {
    none = omega (arith, w.none, ua.other 0 (λ e. omega arith), ua.other 1 (λ e. omega arith));
    free = at_or t (λ h. omega (arith, uk.same)) (λ x n h. omega (arith, ul.other x n, w.free x (omega (arith, uk.other x n))));
    root = at_or t (λ h. omega (arith, uk.same)) (λ x n h. omega (arith, ul.other x n, w.root x (omega (arith, uk.other x n))));
    link = at_or t (λ h. rw uk.same (ua.same, omega (arith, kept (home m) l2, ul.same))) (λ x n h. rw (uk.other x n) (old_link x n (omega (arith, uk.other x n))));
    used = at_or m (λ h. omega (arith, kept (home m) l2)) (λ x n h. omega (arith, old x n h, w.used x (old x n h).1));
    half = at_or m (λ h e. hf (omega (arith, kept (home m) l2))) (λ x n h e. w.half x (old x n h).1 (omega (arith, old x n h)));
    node = at_or m (λ h e. rw (ua.same, table_of_lem) (refl, uk.same)) (λ x n h e. rw (ua.other x n) (old_node x (old x n h).1 (omega (arith, old x n h))));
    leaf = at_or m (λ h e. absurd (omega (arith, kept (home m) l2))) (λ x n h e. rw (ua.other x n) (w.leaf x (old x n h).1 (omega (arith, old x n h))));
    pool = λ j h.
        let p = w.pool j h in (
          kept (home (f j)) (omega (arith, p.0)) ∙ p.0,
          ap frame_no (ua.other (f j) (λ e. omega (arith, ap (λ (x : ℕ). lv (home x)) e, p.0))) ∙ p.1,
        );
  }

-- ---- a free table becomes a root

module _ (a k k' f lv lv' : ℕ → ℕ) (t : ℕ) (w : Tree a k f lv) (uk : Upd k k' t 1) (ul : Upd lv lv' t 2) (ft : k t ≡ 0) where
  root_kept : (x : ℕ) → lv x ≤ 2 → lv' x ≡ lv x
  root_kept x h = ul.other x (λ e. omega (arith, ap lv e, w.free t ft))

  pub tree_rooted : Tree a k' f lv'
  tree_rooted = record {
    none = w.none;
    free = at_or t (λ h. omega (arith, uk.same)) (λ x n h. omega (arith, ul.other x n, w.free x (omega (arith, uk.other x n))));
    root = at_or t (λ h. ul.same) (λ x n h. omega (arith, ul.other x n, w.root x (omega (arith, uk.other x n))));
    link = at_or t (λ h. absurd (omega (arith, uk.same))) (λ x n h.
        let p = w.link x (omega (arith, uk.other x n)) in
        rw (uk.other x n) (p.0, omega (arith, p.1, ul.other x n, root_kept (home (k x)) (w.used (k x) (omega (arith, p.0))))));
    used = λ x p. omega (arith, w.used x p, root_kept (home x) (w.used x p));
    half = λ x p e. w.half x p (omega (arith, root_kept (home x) (w.used x p)));
    node = λ x p l.
        let q = w.node x p (omega (arith, root_kept (home x) (w.used x p))) in
        (q.0, uk.other (table_of (a x)) (λ e. omega (arith, ap k e, q.1, two w x p)) ∙ q.1);
    leaf = λ x p l. w.leaf x p (omega (arith, root_kept (home x) (w.used x p)));
    pool = λ j p. let q = w.pool j p in (root_kept (home (f j)) (omega (arith, q.0)) ∙ q.0, q.1);
  }
