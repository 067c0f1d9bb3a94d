-- `hang`: afterwards a table is there, the walks find what they found, and a table is taken where there was none. Assumes nothing.
use mathlib.Core.Path.{◌≡◌, refl, sym, ap, ◌∙◌}
use mathlib.Core.List.{List, [], ◌∷◌}
use Prim.Native.Nat.{ℕ, zero, suc, ◌+◌, ◌-◌, ◌≤◌, ◌<◌}
use native.Mathlib.Omega.{arith}
use native.Mathlib.Nat.{zero-add, add-zero, suc-add, add-suc}
use lib.ListN.{length, get_or, length-set}
use Rattle.store.specs.Store.{Store, Sized, mark, pointer_to}
use Rattle.store.specs.Level.{home, level}
use Rattle.store.specs.Count.{lowest, is_zero, zeros, free, free_tables}
use Rattle.store.specs.Walk.{slot_word, slot_in, slot, entry_at}
use Rattle.store.proofs.Free.{is_zero_pos}
use Rattle.store.proofs.Tree.{TreeOf, top}
use Rattle.store.proofs.Walk.{depth}
use Rattle.walk.proofs.Spans.{Upd, zeros_upd}
use Rattle.enter.specs.Enter.{linked, if_zero, hang}
use Rattle.enter.proofs.Updates.{at_or, put, put_upd, upd_mark, upd_slot, length_put}
use Rattle.enter.proofs.Tables.{leveled, tree_linked}
use Rattle.enter.proofs.Walks.{walk, here, elsewhere}
use Rattle.enter.proofs.Step.{Step, in_words, free_zero, stay, lower_half}

-- ---- the lowest free mark

lowest_is : (l : List ℕ) (c : ℕ) (g : ℕ → ℕ) → ((j : ℕ) → g (c + j) ≡ get_or l j 0) → 0 < zeros g (length l) c → (lowest l < length l) × (get_or l (lowest l) 0 ≡ 0)
unfolding zeros
lowest_is [] c g e h = absurd (omega arith)
lowest_is (zero ∷ l) c g e h = (omega arith, refl)
lowest_is (suc x ∷ l) c g e h =
    let z : is_zero (g c) ≡ 0 = is_zero_pos (g c) (λ q. omega (arith, e 0, ap g (add-zero c))) in
    let ih = lowest_is l (suc c) g (λ j. ap g (suc-add c j ∙ sym (add-suc c j)) ∙ e (suc j)) (omega arith) in
    (omega (arith, ih.0), ih.1)

-- where some are free, it is one of them
pub lowest_free : (ms : List ℕ) → 0 < free ms → (lowest ms < length ms) × (mark ms (lowest ms) ≡ 0)
unfolding free
lowest_free ms h = lowest_is ms 0 (mark ms) (λ j. ap (mark ms) (zero-add j)) h

-- ---- a free table t is hung where root r's walk finds 0 at depth d for x

module _ (s : Store) (z : Sized s) (w : TreeOf s) where
  module _ (r d x t : ℕ) (rr : mark s.tmarks r ≡ 1) (b : d ≤ 1) (h : top d x < 256) (m2 : 2 ≤ slot (slot_word s.words) r d x) (e : entry_at s r d x ≡ 0)
      (tl : t < length s.tmarks) (tf : mark s.tmarks t ≡ 0) where
    abbrev m : ℕ
    m = slot (slot_word s.words) r d x

    abbrev s' : Store
    s' = linked s (slot (slot_word s.words) r d x) t

    lv : level s.tmarks (home m) + d ≡ 2
    lv = depth w r d x rr (omega arith) (omega arith) m2

    holds : slot_word s.words m ≡ 0
    unfolding entry_at
    holds = e

    ua : Upd (slot_word s.words) (slot_word s'.words) m (pointer_to t)
    ua = upd_slot s.words m (pointer_to t) m2 (in_words s z w m m2 (omega (arith, lv)))

    uk : Upd (mark s.tmarks) (mark s'.tmarks) t m
    uk = upd_mark s.tmarks t m tl

    link_tree : TreeOf s'
    link_tree =
        let l : ℕ → ℕ = level s.tmarks in
        leveled s'.tmarks
        (tree_linked (slot_word s.words) (slot_word s'.words) (mark s.tmarks) (mark s'.tmarks) (mark s.fmarks) l (put l t (l (home m) - 1)) m t w ua uk
        (put_upd l t (l (home m) - 1)) tf holds m2 (omega (arith, lv)) (omega (arith, lv)) (λ q. lower_half (slot_word s.words) r d x h (omega (arith, lv))))

    -- below m there were no words, and there are none in the table that is hung
    alike : (i : ℕ) → i < 512 → slot_word s'.words (slot_in (pointer_to t) i) ≡ slot_word s.words (slot_in (slot_word s.words m) i)
    alike i q =
        let p : home (slot_in (pointer_to t) i) ≡ t = omega arith in
        let p' : slot_in (slot_word s.words m) i ≡ 0 = omega (arith, holds) in
        ua.other (slot_in (pointer_to t) i) (λ c. omega (arith, lv, w.free t tf, ap (level s.tmarks) (sym p ∙ ap home c)))
        ∙ free_zero s z w (slot_in (pointer_to t) i) (ap (mark s.tmarks) p ∙ tf) ∙ sym (ap (slot_word s.words) p' ∙ (omega (arith, w.none)))

    link_sized : Sized s'
    link_sized = record {
      tables_from = simp length-set z.tables_from;
      tables_to = simp length-set z.tables_to;
      frames_from = z.frames_from;
      frames_to = z.frames_to;
      words = simp (length_put, length-set) z.words;
      bytes = z.bytes;
    }

    link_free : free_tables s ≡ suc (free_tables s')
    unfolding free
    link_free =
        zeros_upd (mark s.tmarks) (mark s'.tmarks) t m (length s.tmarks) 0 uk tf (omega arith) (omega arith) (omega arith)
        ∙ ap (λ (n : ℕ). suc (zeros (mark s'.tmarks) n 0)) (sym (length-set s.tmarks t m))

    link_here : 0 < entry_at s' r d x
    unfolding entry_at
    link_here = omega (arith, here w (slot_word s'.words) m (pointer_to t) ua m2 (λ _. alike) r d x rr (omega arith) (omega arith) refl)

    link_step : Step s s' r d x
    unfolding entry_at
    link_step = record {
      sized = link_sized;
      tree = link_tree;
      roots = at_or t (omega (arith, uk.same)) (λ j n. omega (arith, uk.other j n));
      bytes = refl;
      fmarks = refl;
      place = (walk w (slot_word s'.words) m (pointer_to t) ua m2 (λ _. alike) r d x rr (omega arith) (omega arith)).1 refl;
      rest = λ r' d' x' rr' h' b' n.
          elsewhere w (slot_word s'.words) m (pointer_to t) ua m2 (λ _. alike) r d x rr (omega arith) (omega arith) refl r' d' x' rr' (omega arith) b' n;
    }

  -- ---- `hang` at that slot, whatever it holds

  pub hung : (r d x : ℕ) → mark s.tmarks r ≡ 1 → d ≤ 1 → top d x < 256 → 2 ≤ slot (slot_word s.words) r d x → is_zero (entry_at s r d x) ≤ free_tables s
      → Step s (hang s (slot (slot_word s.words) r d x)) r d x
      × (0 < entry_at (hang s (slot (slot_word s.words) r d x)) r d x)
      × (free_tables s ≡ is_zero (entry_at s r d x) + free_tables (hang s (slot (slot_word s.words) r d x)))
  unfolding hang entry_at
  hung r d x rr b h m2 f = go (entry_at s r d x) refl
    where
      t : ℕ
      t = lowest s.tmarks

      s₁ : Store
      s₁ = linked s (slot (slot_word s.words) r d x) t

      go : (c : ℕ) → entry_at s r d x ≡ c
          → Step s (if_zero c s₁ s) r d x × (0 < entry_at (if_zero c s₁ s) r d x) × (free_tables s ≡ is_zero c + free_tables (if_zero c s₁ s))
      go zero e =
          let l = lowest_free s.tmarks (omega (arith, ap is_zero e)) in (
            link_step r d x t rr b h m2 e l.0 l.1,
            link_here r d x t rr b h m2 e l.0 l.1,
            omega (arith, link_free r d x t rr b h m2 e l.0 l.1),
          )
      go (suc c) e = (stay s z w r d x, omega arith, omega arith)
