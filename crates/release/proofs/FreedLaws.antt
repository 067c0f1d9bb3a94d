-- What `free` means: the tables of the root are free and zero, and all else is as before. Assumes nothing.
use mathlib.Core.Path.{◌≡◌, refl, sym, ap, ◌∙◌, subst, subst₂}
use mathlib.Core.Bool.{Bool, true, false, cond}
use mathlib.Core.List.{List}
use Prim.Native.Nat.{ℕ, zero, suc, ◌+◌, ◌/◌, ◌^◌, ◌<◌}
use native.Mathlib.Omega.{arith}
use lib.ListN.{length}
use Rattle.std.specs.Prelude.{Ok}
use Rattle.store.specs.Sum.{sum}
use Rattle.store.specs.Store.{Store, store_of, Sized, mark}
use Rattle.store.specs.Level.{home, level}
use Rattle.store.specs.Count.{is_zero, free_tables}
use Rattle.store.specs.WellFormed.{WellFormed}
use Rattle.store.specs.Walk.{slot_word, slot, entry_at, resolve}
use Rattle.store.specs.Owners.{Below, self, step}
use Rattle.store.proofs.Free.{is_zero_pos}
use Rattle.store.proofs.Sums.{sum_cong, sum_add}
use Rattle.store.proofs.Taken.{free_sum}
use Rattle.store.proofs.Tree.{TreeOf, tree_of, well_formed_of, home_slot, two, top}
use Rattle.store.proofs.Walk.{parent, hangs, placed, low, page_of_lem, top_of}
use Rattle.store.proofs.Owners.{owner, pointed}
use Rattle.well_formed.specs.Root.{RootReady}
use Rattle.walk.specs.Mapped.{Mapped}
use Rattle.walk.proofs.Pages.{mapped_word}
use Rattle.enter.proofs.Tables.{leveled}
use Rattle.release.specs.Free.{mapped, of_root, wiped_words, wiped_marks, released, tables_of, Free}
use Rattle.release.specs.Freed.{Freed}
use Rattle.release.proofs.Wiped.{wiped_length, wiped_in, wiped_out}
use Rattle.release.proofs.Truth.{not_true}
use Rattle.release.proofs.Belongs.{up, Under, under_self, under_up, one_above, belongs_under}
use Rattle.release.proofs.GivenBack.{Change, walk_under, under_of, tree_without, same_walk}

-- ---- marks, words and levels, by the functions that read them

marks_change : (p : ℕ → Bool) (ms : List ℕ) → Change p 0 (mark ms) (mark (wiped_marks p ms))
marks_change p ms = record { there = wiped_in p ms; elsewhere = wiped_out p ms }

slots_change : (p : ℕ → Bool) (ws : List ℕ) → Change (λ m. p (home m)) 0 (slot_word ws) (slot_word (wiped_words p ws))
unfolding slot_word
slots_change p ws = record { there = there; elsewhere = elsewhere }
  where
    is : (m : ℕ) → home (suc (suc m)) ≡ m / 512
    is m = omega arith

    there : (m : ℕ) → p (home m) ≡ true → slot_word (wiped_words p ws) m ≡ 0
    there zero e = refl
    there (suc zero) e = refl
    there (suc (suc m)) e = wiped_in (λ v. p (v / 512)) ws m (sym (ap p (is m)) ∙ e)

    elsewhere : (m : ℕ) → p (home m) ≡ false → slot_word (wiped_words p ws) m ≡ slot_word ws m
    elsewhere zero e = refl
    elsewhere (suc zero) e = refl
    elsewhere (suc (suc m)) e = wiped_out (λ v. p (v / 512)) ws m (sym (ap p (is m)) ∙ e)

abbrev levels : (ℕ → Bool) → (ℕ → ℕ) → ℕ → ℕ
levels p lv t = cond (p t) 3 (lv t)

levels_change : (p : ℕ → Bool) (lv : ℕ → ℕ) → Change p 3 lv (levels p lv)
levels_change p lv = record { there = λ t e. rw e; elsewhere = λ t e. rw e }

-- a mark x that was in use becomes y, which is 0, where b says so
tally : (b : Bool) (x y : ℕ) → (b ≡ true → (y ≡ 0) × (x ≡ 0 → ⊥)) → (b ≡ false → y ≡ x) → is_zero y ≡ is_zero x + cond b 1 0
tally true x y f g = let q = f refl in ap is_zero q.0 ∙ omega (arith, is_zero_pos x q.1)
tally false x y f g = ap is_zero (g refl) ∙ omega arith

module _ (s : Store) (z : Sized s) (c : WellFormed s) (root : ℕ) (rr : mark s.tmarks root ≡ 1) where
  w : TreeOf s
  w = tree_of s z c

  abbrev k : ℕ → ℕ
  k = mark s.tmarks

  abbrev p : ℕ → Bool
  p = of_root s root

  -- ---- the tables of the root are those below it

  under_below : (n u : ℕ) → level s.tmarks u + n ≡ level s.tmarks root → up k n u ≡ root → Below s root u
  unfolding up
  under_below zero u h e = subst (Below s root) (sym e) (self rr)
  under_below (suc n) u h e =
      let g = hangs w u (omega (arith, w.root root rr)) in
      step (under_below n (home (k u)) (omega (arith, parent w u g)) e) (pointed s z c u g)

  below_under : {u : ℕ} → Below s root u → Under w root u
  below_under (self h) = under_self w root root refl
  below_under (step {w = v} {t = t} b q) =
      let e = owner s z c q in
      let h : home (k t) ≡ v / 512 = ap home e ∙ home_slot v in
      under_up w root t (omega arith) (subst (Under w root) (sym h) (below_under b))

  pub of_below : (u : ℕ) → p u ≡ true → Below s root u
  of_below u e = let q = belongs_under w 3 root u e in under_below q.steps u q.levels q.is

  pub below_of : (u : ℕ) → Below s root u → p u ≡ true
  below_of u b = under_of w root rr u (below_under b)

  not_below : (u : ℕ) → (Below s root u → ⊥) → p u ≡ false
  not_below u n = not_true (p u) (λ e. n (of_below u e))

  -- ---- the store without them

  abbrev s' : Store
  s' = store_of (wiped_words p s.words) (wiped_marks p s.tmarks) s.bytes s.fmarks

  sized : Sized s'
  sized = record {
    tables_from = simp wiped_length z.tables_from;
    tables_to = simp wiped_length z.tables_to;
    frames_from = z.frames_from;
    frames_to = z.frames_to;
    words = simp wiped_length z.words;
    bytes = z.bytes;
  }

  -- each of them was in use
  in_use : (u : ℕ) → p u ≡ true → k u ≡ 0 → ⊥
  in_use u e h = omega (arith, (belongs_under w 3 root u e).levels, w.free u h, w.root root rr)

  counted : free_tables s' ≡ free_tables s + tables_of s root
  counted =
      free_sum (wiped_marks p s.tmarks) ∙ ap (sum (λ t. is_zero (mark (wiped_marks p s.tmarks) t))) (wiped_length p 0 s.tmarks)
      ∙ sum_cong (λ t. is_zero (mark (wiped_marks p s.tmarks) t)) (λ t. is_zero (k t) + cond (p t) 1 0) (length s.tmarks)
      (λ t l. tally (p t) (k t) (mark (wiped_marks p s.tmarks) t) (λ e. (wiped_in p s.tmarks t e, in_use t e)) (wiped_out p s.tmarks t))
      ∙ sum_add (λ t. is_zero (k t)) (λ t. cond (p t) 1 0) (length s.tmarks)
      ∙ ap (λ (n : ℕ). n + tables_of s root) (sym (free_sum s.tmarks))

  others : (r x : ℕ) → k r ≡ 1 → (r ≡ root → ⊥) → x < 2 ^ 26 → resolve s' r x ≡ resolve s r x
  unfolding entry_at
  others r x r1 n h = same_walk w root rr (slots_change p s.words) r r1 n 2 x (omega (arith, top_of x h)) (omega arith)

  module _ (none : (x : ℕ) × (x < 2 ^ 26) × Mapped s root x → ⊥) where
    -- no table of the root holds a word of level 0, which would be that of a page
    bare : (m : ℕ) → 0 < slot_word s.words m → level s.tmarks (home m) ≡ 0 → p (home m) ≡ true → ⊥
    unfolding entry_at
    bare m h l e = go (placed w 2 m (two w m h) (omega arith))
      where
        go : (r : ℕ) × (x : ℕ) × (k r ≡ 1) × (top 2 x < 512) × (slot (slot_word s.words) r 2 x ≡ m) → ⊥
        go (r, x, r1, b, q) =
            let u = subst (λ (y : ℕ). Under w r (home y)) q (walk_under w r r1 2 x b (omega arith) (omega (arith, two w m h))) in
            let o = one_above w r root (home m) (w.root r r1 ∙ sym (w.root root rr)) u (belongs_under w 3 root (home m) e) in
            let v : slot_word s.words (slot (slot_word s.words) r 2 x) ≡ slot_word s.words m = ap (slot_word s.words) q in
            let i = page_of_lem x (low w r 2 x r1 b (omega arith)) in
            none (x, i, mapped_word s z c root rr x i (λ y. omega (arith, v, ap (λ (j : ℕ). slot_word s.words (slot (slot_word s.words) j 2 x)) o)))

    tree : TreeOf s'
    tree =
        leveled (wiped_marks p s.tmarks)
        (tree_without w root rr (slots_change p s.words) (marks_change p s.tmarks) (levels_change p (level s.tmarks)) bare)

    pub freed : Freed s root (tables_of s root) (released s root)
    unfolding released
    freed = record {
      sized = sized;
      well_formed = well_formed_of s' sized tree;
      gone = wiped_in p s.tmarks root (below_of root (self rr));
      free = λ t b. wiped_in p s.tmarks t (below_of t b);
      zero = λ v b. wiped_in (λ x. p (x / 512)) s.words v (below_of (v / 512) b);
      marks = λ t n. wiped_out p s.tmarks t (not_below t n);
      words = λ v n. wiped_out (λ x. p (x / 512)) s.words v (not_below (v / 512) n);
      roots = λ r e n. wiped_out p s.tmarks r (not_true (p r) (λ y.
          n (one_above w r root r (w.root r e ∙ sym (w.root root rr)) (under_self w r r refl) (belongs_under w 3 root r y)))) ∙ e;
      pages = others;
      fmarks = refl;
      bytes = refl;
      tables = counted;
    }

-- what a success means
pub free_freed : (s : Store) (root v : ℕ) (s' : Store) → RootReady s root → Free s root (Ok v) s' → Freed s root v s'
free_freed s root v t r u =
    subst₂ (Freed s root) (sym u.1.0) (sym u.1.1) (freed s r.sized r.formed root r.is_root (λ h. u.0 18 (mapped h)))
