-- While a new root is filled and emptied, the tables that were taken before it stay as they were, and each table taken since belongs to it. Assumes nothing.
use mathlib.Core.Path.{◌≡◌, refl, sym, ap, ◌∙◌, subst}
use mathlib.Core.Logic.{by_cases}
use mathlib.Core.Bool.{true}
use mathlib.Core.List.{List}
use Prim.Native.Nat.{ℕ, zero, suc, ◌+◌, ◌/◌, ◌≤◌, ◌<◌}
use native.Mathlib.Decide.{ℕ_discrete, dec_lt}
use native.Mathlib.Omega.{arith}
use borrow.Author.Tests.{eq-eqb}
use lib.ListN.{length, set, length-set}
use lib.Seq.{get_or-set_other}
use Rattle.store.specs.Store.{Store, Sized, word, mark}
use Rattle.store.specs.Level.{home, level}
use Rattle.store.specs.Count.{lowest, is_zero, free_tables}
use Rattle.store.specs.Walk.{slot_word, slot, entry_at}
use Rattle.store.proofs.Tree.{TreeOf, top, home_slot}
use Rattle.store.proofs.Walk.{parent, hangs}
use Rattle.walk.proofs.Spans.{Upd}
use Rattle.map.specs.Create.{rooted}
use Rattle.enter.specs.Enter.{put_slot, linked, if_zero, hang}
use Rattle.enter.proofs.Updates.{upd_mark}
use Rattle.enter.proofs.Step.{Step}
use Rattle.enter.proofs.Hang.{lowest_free, hung}
use Rattle.release.specs.Free.{belongs, of_root}
use Rattle.release.proofs.Belongs.{up, Under, under_self, under_up, belongs_under}
use Rattle.release.proofs.GivenBack.{walk_under, under_of}

-- each table that was taken in s has in s' the mark and the words that it had, and each table taken since belongs to root r
pub record OtherTables (s : Store) (r : ℕ) (s' : Store) : Type 0 where
  pub tables : length s'.tmarks ≡ length s.tmarks
  pub marks : (t : ℕ) → 0 < mark s.tmarks t → mark s'.tmarks t ≡ mark s.tmarks t
  pub words : (w : ℕ) → 0 < mark s.tmarks (w / 512) → word s'.words w ≡ word s.words w
  pub since : (t : ℕ) → mark s.tmarks t ≡ 0 → 0 < mark s'.tmarks t → of_root s' r t ≡ true

-- a word where another slot was written
word_other : (ws : List ℕ) (m v w : ℕ) → (w + 2 ≡ m → ⊥) → word (put_slot ws m v) w ≡ word ws w
word_other ws zero v w n = refl
word_other ws (suc zero) v w n = refl
word_other ws (suc (suc m)) v w n = get_or-set_other ws m w v 0 (λ e. n (omega arith))

-- r was a free table of s
module _ (s : Store) (a : TreeOf s) (r : ℕ) (rf : mark s.tmarks r ≡ 0) where
  -- it has become a root
  pub new_root : OtherTables s r (rooted s r)
  unfolding belongs
  new_root = record {
    tables = length-set s.tmarks r 1;
    marks = λ t l. get_or-set_other s.tmarks r t 1 0 (λ e. omega (arith, rf, ap (mark s.tmarks) e));
    words = λ w l. refl;
    since = λ t z l. since t z l (ℕ_discrete t r);
  }
    where
      since : (t : ℕ) → mark s.tmarks t ≡ 0 → 0 < mark (set s.tmarks r 1) t → Dec (t ≡ r) → of_root (rooted s r) r t ≡ true
      since t z l (yes e) = rw (eq-eqb t r e)
      since t z l (no n) = absurd (omega (arith, get_or-set_other s.tmarks r t 1 0 n))

  -- the table that holds the word of a mark is in use
  used_above : (t : ℕ) → 2 ≤ mark s.tmarks t → 0 < mark s.tmarks (home (mark s.tmarks t))
  used_above t h =
      by_cases (dec_lt 0 (mark s.tmarks (home (mark s.tmarks t)))) (λ l. l)
      (λ n. absurd (omega (arith, parent a t h, a.free (home (mark s.tmarks t)) (omega arith))))

  module _ (s' : Store) (b : TreeOf s') (rr : mark s'.tmarks r ≡ 1) (o : OtherTables s r s') where
    -- no table that was taken belongs to r
    never : (n t : ℕ) → 0 < mark s.tmarks t → level s'.tmarks t + n ≡ 2 → up (mark s'.tmarks) n t ≡ r → ⊥
    unfolding up
    never zero t h l e = omega (arith, rf, ap (mark s.tmarks) e)
    never (suc n) t h l e =
        let g = hangs b t (omega arith) in
        let q = o.marks t h in
        let u : 0 < mark s.tmarks (home (mark s'.tmarks t)) = omega (arith, ap (λ (x : ℕ). mark s.tmarks (home x)) q, used_above t (omega (arith, q, g))) in
        never n (home (mark s'.tmarks t)) u (omega (arith, parent b t g)) e

    pub not_of : (t : ℕ) → 0 < mark s.tmarks t → of_root s' r t ≡ true → ⊥
    not_of t h e = let q = belongs_under b 3 r t e in never q.steps t h (omega (arith, q.levels, b.root r rr)) q.is

    -- a slot that the walk from r reads
    module _ (d x : ℕ) (h : top d x < 512) (k : d ≤ 2) (m2 : 2 ≤ slot (slot_word s'.words) r d x) where
      abbrev m : ℕ
      m = slot (slot_word s'.words) r d x

      elsewhere : (w : ℕ) → 0 < mark s.tmarks (w / 512) → w + 2 ≡ m → ⊥
      elsewhere w l e =
          not_of (w / 512) l (ap (λ (y : ℕ). of_root s' r y) (sym (home_slot w) ∙ ap home e) ∙ under_of b r rr (home m) (walk_under b r rr d x h k m2))

      -- it is written, and the table marks stay
      pub written : (v : ℕ) (s'' : Store) → s''.tmarks ≡ s'.tmarks → s''.words ≡ put_slot s'.words (slot (slot_word s'.words) r d x) v → OtherTables s r s''
      written v s'' ek ea = record {
        tables = ap length ek ∙ o.tables;
        marks = λ t l. ap (λ (y : List ℕ). mark y t) ek ∙ o.marks t l;
        words = λ w l. ap (λ (y : List ℕ). word y w) ea ∙ word_other s'.words m v w (elsewhere w l) ∙ o.words w l;
        since = λ t z l. ap (λ (y : List ℕ). belongs (mark y) 3 r t) ek ∙ o.since t z (omega (arith, ap (λ (y : List ℕ). mark y t) ek));
      }

      -- a free table t is hung there
      module _ (t : ℕ) (tl : t < length s'.tmarks) (tf : mark s'.tmarks t ≡ 0) (st : Step s' (linked s' (slot (slot_word s'.words) r d x) t) r d x) where
        abbrev s₁ : Store
        s₁ = linked s' (slot (slot_word s'.words) r d x) t

        rr₁ : mark s₁.tmarks r ≡ 1
        rr₁ = (st.roots r).0 rr

        uk : Upd (mark s'.tmarks) (mark s₁.tmarks) t m
        uk = upd_mark s'.tmarks t m tl

        -- what belonged to r still does
        still : (n u : ℕ) → level s'.tmarks u + n ≡ 2 → up (mark s'.tmarks) n u ≡ r → Under st.tree r u
        unfolding up
        still zero u l e = under_self st.tree r u e
        still (suc n) u l e =
            let g = hangs b u (omega arith) in
            let q = uk.other u (λ i. omega (arith, tf, g, ap (mark s'.tmarks) i)) in
            under_up st.tree r u (omega (arith, q, g)) (subst (λ (y : ℕ). Under st.tree r (home y)) (sym q) (still n (home (mark s'.tmarks u)) (omega (arith, parent b u g)) e))

        -- and so does t
        t_too : Under st.tree r t
        t_too =
            under_up st.tree r t (omega (arith, uk.same, m2))
            (subst (λ (y : ℕ). Under st.tree r (home y)) (st.place ∙ sym uk.same) (walk_under st.tree r rr₁ d x h k (omega (arith, st.place, m2))))

        since : (u : ℕ) → mark s.tmarks u ≡ 0 → 0 < mark s₁.tmarks u → Dec (u ≡ t) → of_root s₁ r u ≡ true
        since u z l (yes e) = under_of st.tree r rr₁ u (subst (Under st.tree r) (sym e) t_too)
        since u z l (no n) =
            let q = belongs_under b 3 r u (o.since u z (omega (arith, uk.other u n))) in
            under_of st.tree r rr₁ u (still q.steps u (omega (arith, q.levels, b.root r rr)) q.is)

        linked_too : OtherTables s r s₁
        linked_too = record {
          tables = length-set s'.tmarks t m ∙ o.tables;
          marks = λ u l. uk.other u (λ e. omega (arith, tf, o.marks u l, ap (mark s'.tmarks) e)) ∙ o.marks u l;
          words = λ w l. word_other s'.words m _ w (elsewhere w l) ∙ o.words w l;
          since = λ u z l. since u z l (ℕ_discrete u t);
        }

      -- a table is hung there where it is missing
      pub hung_too : Sized s' → d ≤ 1 → top d x < 256 → is_zero (entry_at s' r d x) ≤ free_tables s' → OtherTables s r (hang s' (slot (slot_word s'.words) r d x))
      unfolding hang entry_at
      hung_too z d1 h2 f = go (slot_word s'.words m) refl (hung s' z b r d x rr d1 h2 m2 f).0
        where
          go : (c : ℕ) → slot_word s'.words m ≡ c → Step s' (if_zero c (linked s' m (lowest s'.tmarks)) s') r d x → OtherTables s r (if_zero c (linked s' m (lowest s'.tmarks)) s')
          go zero e st = let l = lowest_free s'.tmarks (omega (arith, ap is_zero e)) in linked_too (lowest s'.tmarks) l.0 l.1 st
          go (suc c) e st = o
