-- `uvmcreate`: its reasons in order, that it answers in one way, and what holds afterwards. Assumes nothing.
use mathlib.Core.Path.{◌≡◌, refl, sym, ap, ◌∙◌, subst}
use mathlib.Core.Logic.{inl, inr}
use Prim.Native.Nat.{ℕ, suc, ◌+◌, ◌*◌, ◌/◌, ◌%◌, ◌^◌, ◌≤◌, ◌<◌}
use native.Mathlib.Nat.{le_refl}
use native.Mathlib.Omega.{arith}
use lib.ListN.{length, length-set}
use Rattle.std.specs.Prelude.{Result, Ok, Err}
use Rattle.refusal.specs.declared.Refusal.{Refusal}
use Rattle.refusal.specs.Number.{number_of}
use Rattle.store.specs.Store.{Store, Sized, mark}
use Rattle.store.specs.Level.{home, level}
use Rattle.store.specs.Count.{lowest, zeros, free, free_tables}
use Rattle.store.specs.WellFormed.{WellFormed}
use Rattle.store.specs.Walk.{slot_word, slot_in, slot, entry_at, resolve}
use Rattle.store.specs.Outcome.{Smallest, NoReason}
use Rattle.store.proofs.Outcomes.{one_outcome}
use Rattle.store.proofs.Tree.{TreeOf, tree_of, well_formed_of}
use Rattle.well_formed.specs.Check.{Judged}
use Rattle.well_formed.proofs.Verdict.{judged_no}
use Rattle.walk.proofs.Spans.{Upd, zeros_upd}
use Rattle.map.specs.Create.{CreateReason, sizes, unformed, no_table, rooted, CreateDone, Create, Created}
use Rattle.enter.proofs.Updates.{at_or, put, put_upd, upd_mark}
use Rattle.enter.proofs.Tables.{leveled, tree_rooted}
use Rattle.enter.proofs.Step.{free_zero}
use Rattle.enter.proofs.Hang.{lowest_free}

module _ (s : Store) where
  abbrev R : ℕ → Type 0
  R = CreateReason s

  least : (n : ℕ) → (1 < n → Sized s) → (2 < n → WellFormed s) → (17 < n → free_tables s ≡ 0 → ⊥) → (k : ℕ) → k < n → R k → ⊥
  least n z w f k l (sizes h) = h (z l)
  least n z w f k l (unformed h) = h (w l)
  least n z w f k l (no_table h) = f l h

  pub not_judged : (r : Refusal) → Judged s (Err r) → Smallest R (number_of r)
  not_judged =
      judged_no s R (λ h. record { applies = sizes h; least = least 1 (λ l. absurd (omega arith)) (λ l. absurd (omega arith)) (λ l. absurd (omega arith)) })
      (λ z h. record { applies = unformed h; least = least 2 (λ l. z) (λ l. absurd (omega arith)) (λ l. absurd (omega arith)) })

  pub no_17 : Sized s → WellFormed s → (1 ≤ free_tables s → ⊥) → Smallest R 17
  no_17 z w h = record { applies = no_table (omega arith); least = least 17 (λ l. z) (λ l. w) (λ l. absurd (omega arith)) }

  pub clear : Sized s → WellFormed s → 1 ≤ free_tables s → NoReason R
  clear z w f k = least (suc k) (λ l. z) (λ l. w) (λ l e. omega arith) k (le_refl (suc k))

  -- two answers are the same, and so are the stores
  pub one_create : (a a' : Result ℕ Refusal) (t t' : Store) → Create s a t → Create s a' t' → (a ≡ a') × (t ≡ t')
  one_create = one_outcome R (CreateDone s) (λ v v' t t' x y. (x.0 ∙ sym y.0, x.1 ∙ sym y.1)) s

-- ---- a free table t becomes a root

module _ (s : Store) (z : Sized s) (w : TreeOf s) (t : ℕ) (tl : t < length s.tmarks) (tf : mark s.tmarks t ≡ 0) where
  abbrev s' : Store
  s' = rooted s t

  uk : Upd (mark s.tmarks) (mark s'.tmarks) t 1
  uk = upd_mark s.tmarks t 1 tl

  tree : TreeOf s'
  tree =
      let l : ℕ → ℕ = level s.tmarks in
      leveled s'.tmarks (tree_rooted (slot_word s.words) (mark s.tmarks) (mark s'.tmarks) (mark s.fmarks) l (put l t 2) t w uk (put_upd l t 2) tf)

  sized : Sized s'
  sized = record {
    tables_from = simp length-set z.tables_from;
    tables_to = simp length-set z.tables_to;
    frames_from = z.frames_from;
    frames_to = z.frames_to;
    words = simp length-set z.words;
    bytes = z.bytes;
  }

  fewer : free_tables s ≡ suc (free_tables s')
  unfolding free
  fewer =
      zeros_upd (mark s.tmarks) (mark s'.tmarks) t 1 (length s.tmarks) 0 uk tf (omega arith) (omega arith) (omega arith)
      ∙ ap (λ (n : ℕ). suc (zeros (mark s'.tmarks) n 0)) (sym (length-set s.tmarks t 1))

  -- a table without words leads nowhere
  nothing : (p : ℕ) → p < 2 ^ 26 → resolve s t p ≡ 0
  unfolding entry_at slot
  nothing p h =
      let a : ℕ → ℕ = slot_word s.words in
      let m : ℕ = 512 * t + p / 512 / 512 + 2 in
      let hm : home m ≡ t = omega arith in
      let e : slot_word s.words m ≡ 0 = free_zero s z w m (ap (mark s.tmarks) hm ∙ tf) in
      let f : slot_in (slot_word s.words m) (p / 512 % 512) ≡ 0 = omega (arith, e) in
      let g : slot_word s.words (slot_in (slot_word s.words m) (p / 512 % 512)) ≡ 0 = ap (slot_word s.words) f ∙ omega (arith, w.none) in
      let k : slot_in (slot_word s.words (slot_in (slot_word s.words m) (p / 512 % 512))) (p % 512) ≡ 0 = omega (arith, g) in
      ap (slot_word s.words) k ∙ omega (arith, w.none)

  created : Created s t s'
  unfolding entry_at
  created = record {
    sized = sized;
    well_formed = well_formed_of s' sized tree;
    was_free = tf;
    is_root = uk.same;
    empty = nothing;
    others = at_or t (λ e. absurd (omega arith)) (λ r n e. uk.other r n ∙ e);
    no_others = at_or t (λ e. inl refl) (λ r n e. inr (sym (uk.other r n) ∙ e));
    as_before = λ r p e. refl;
    taken = fewer;
  }

-- what holds after the call
pub create_creates : (s s' : Store) (v : ℕ) → Sized s → WellFormed s → 0 < free_tables s → Create s (Ok v) s' → Created s v s'
create_creates s t v z w f d =
    let l = lowest_free s.tmarks f in
    subst (λ (x : Store). Created s v x) (sym d.1.1)
    (subst (λ (t : ℕ). Created s t (rooted s (lowest s.tmarks))) (sym d.1.0) (created s z (tree_of s z w) (lowest s.tmarks) l.0 l.1))
