-- A root that is created, filled and released leaves the store as it was: no table and no frame is lost. Assumes nothing.
use mathlib.Core.Path.{◌≡◌, refl, sym, ap, ap₂, ◌∙◌, subst}
use mathlib.Core.Logic.{inl, inr, by_cases}
use mathlib.Core.Bool.{true, false≢true, true≢false}
use mathlib.Core.List.{List}
use Prim.Native.Nat.{ℕ, zero, suc, ◌+◌, ◌*◌, ◌/◌, ◌^◌, ◌≤◌, ◌<◌}
use native.Mathlib.Decide.{ℕ_discrete, dec_lt}
use native.Mathlib.Omega.{arith}
use lib.ListN.{length, get_or, length-replicate}
use lib.Seq.{ext_get_or}
use Rattle.std.specs.Prelude.{Result, Ok, Err}
use Rattle.refusal.specs.declared.Refusal.{Refusal}
use Rattle.store.specs.Store.{Store, Sized, word, mark, frame_no, pool_no}
use Rattle.store.specs.WellFormed.{WellFormed}
use Rattle.store.specs.Count.{free, free_tables}
use Rattle.store.specs.Walk.{resolve}
use Rattle.store.specs.Owners.{Below}
use Rattle.store.proofs.Tree.{tree_of}
use Rattle.well_formed.specs.Root.{RootReady, Asked}
use Rattle.walk.specs.Missing.{missing}
use Rattle.walk.proofs.Pages.{word_mapped}
use Rattle.map.specs.Create.{no_table, rooted, Create, Created}
use Rattle.map.proofs.CreateLaws.{create_creates}
use Rattle.unmap.specs.Unmap.{UnmapReady, Unmap}
use Rattle.unmap.specs.Gone.{Gone}
use Rattle.unmap.proofs.LeavePages.{leavable}
use Rattle.unmap.proofs.UnmapReasons as unmapping
use Rattle.unmap.proofs.UnmapLaws.{unmap_gone}
use Rattle.shrink.specs.Sizes.{pages_to, too_large}
use Rattle.fresh.specs.Fill.{pool_entry}
use Rattle.grow.specs.Grow.{gained, sizes, pages, zeroed, Grow}
use Rattle.fresh.specs.Grown.{Grown}
use Rattle.fresh.proofs.GrownLaws.{growable_where}
use Rattle.grow.proofs.GrowLaws.{grow_grown}
use Rattle.release.specs.Free.{of_root, released, FreeReady, Free}
use Rattle.release.specs.Freed.{Freed}
use Rattle.process.specs.Parts.{UvmFree}
use Rattle.process.specs.RootGone.{RootGone}
use Rattle.process.specs.Lifetime.{Restored}
use Rattle.process.proofs.StillRoot.{still_root}
use Rattle.release.proofs.Wiped.{wiped_length}
use Rattle.release.proofs.Truth.{by_truth}
use Rattle.release.proofs.FreeReasons.{clear}
use Rattle.release.proofs.FreedLaws.{of_below, below_of, free_freed}
use Rattle.process.proofs.PartLaws.{uvm_free_gone}
use Rattle.process.proofs.OtherTables.{OtherTables, new_root, not_of}
use Rattle.process.proofs.RootTables.{filled_too, left_too}

-- ---- the tables: r was free in s, and is freed in s'

module _ (s : Store) (z : Sized s) (c : WellFormed s) (r : ℕ) (rf : mark s.tmarks r ≡ 0) (s' : Store) (rr : RootReady s' r) (o : OtherTables s r s')
    (v : ℕ) (s'' : Store) (u : Free s' r (Ok v) s'') where
  f : Freed s' r v s''
  f = free_freed s' r v s'' rr u

  below : (t : ℕ) → Below s' r t → of_root s' r t ≡ true
  below = below_of s' rr.sized rr.formed r rr.is_root

  -- a table that was taken does not lie below r
  apart : (t : ℕ) → 0 < mark s.tmarks t → Below s' r t → ⊥
  apart t l b = not_of s (tree_of s z c) r rf s' (tree_of s' rr.sized rr.formed) rr.is_root o t l (below t b)

  free_back : (t : ℕ) → mark s.tmarks t ≡ 0 → mark s''.tmarks t ≡ 0
  free_back t e =
      by_truth (of_root s' r t) (λ y. f.free t (of_below s' rr.sized rr.formed r rr.is_root t y))
      (λ n. f.marks t (λ b. false≢true (sym n ∙ below t b)) ∙ by_cases (dec_lt 0 (mark s'.tmarks t)) (λ l. absurd (false≢true (sym n ∙ o.since t e l))) (λ l. omega arith))

  mark_back : (t : ℕ) → mark s''.tmarks t ≡ mark s.tmarks t
  mark_back t =
      by_cases (dec_lt 0 (mark s.tmarks t)) (λ l. f.marks t (apart t l) ∙ o.marks t l) (λ l. let e : mark s.tmarks t ≡ 0 = omega arith in free_back t e ∙ sym e)

  many_tables : length s''.tmarks ≡ length s.tmarks
  unfolding released
  many_tables = ap (λ (y : Store). length y.tmarks) u.1.1 ∙ wiped_length (of_root s' r) 0 s'.tmarks ∙ o.tables

  many_words : length s''.words ≡ length s.words
  many_words = omega (arith, f.sized.words, z.words, many_tables)

  word_back : (w : ℕ) → w < length s''.words → word s''.words w ≡ word s.words w
  word_back w h =
      by_cases (dec_lt 0 (mark s.tmarks (w / 512))) (λ l. f.words w (apart (w / 512) l) ∙ o.words w l)
      (λ l. let e : mark s.tmarks (w / 512) ≡ 0 = omega arith in f.well_formed.w1 w h (free_back (w / 512) e) ∙ sym (c.w1 w (omega (arith, many_words)) e))

  tables_back : (s''.words ≡ s.words) × (s''.tmarks ≡ s.tmarks)
  tables_back = (ext_get_or 0 s''.words s.words many_words word_back, ext_get_or 0 s''.tmarks s.tmarks many_tables (λ t l. mark_back t))

-- ---- table t has been created, and n bytes of it have got frames

module _ (s : Store) (z : Sized s) (c : WellFormed s) (t : ℕ) (s₁ : Store) (d : Create s (Ok t) s₁) (n v : ℕ) (s₂ : Store) (u : Grow s₁ t 0 n (Ok v) s₂) where
  some : 0 < free_tables s
  some = by_cases (dec_lt 0 (free_tables s)) (λ l. l) (λ l. absurd (d.0 17 (no_table (omega arith))))

  made : Created s t s₁
  made = create_creates s s₁ t z c some d

  small : n ≤ 2 ^ 38
  small = by_cases (dec_lt (2 ^ 38) n) (λ l. absurd (u.0 6 (sizes (too_large (inr l))))) (λ l. omega arith)

  asked : Asked s₁ t (pages_to 0) (gained 0 n)
  asked = record { at_root = record { sized = made.sized; formed = made.well_formed; is_root = made.is_root }; pages = omega (arith, small) }

  g : Grown s₁ t (pages_to 0) (gained 0 n) (λ _. 31) (λ _. zeroed) s₂
  g = grow_grown s₁ t 0 n v s₂ asked u

  ready₂ : RootReady s₂ t
  ready₂ = record { sized = g.sized; formed = g.well_formed; is_root = (g.roots t).0 made.is_root }

  others₁ : OtherTables s t s₁
  others₁ = subst (OtherTables s t) (ap (rooted s) d.1.0 ∙ sym d.1.1) (new_root s (tree_of s z c) t made.was_free)

  others₂ : OtherTables s t s₂
  others₂ =
      subst (OtherTables s t) (sym u.1.1)
      (filled_too s (tree_of s z c) t made.was_free (λ _. 31) (λ _. zeroed) (λ x. (refl, omega arith, length-replicate {A = ℕ} 4096 0)) (gained 0 n) s₁ (pages_to 0)
      (growable_where s₁ t (pages_to 0) (gained 0 n) asked (λ k x. u.0 k (pages x))) others₁)

  -- the pages past n bytes are not there
  past : (x : ℕ) → x < 2 ^ 26 → pages_to n ≤ x → resolve s₂ t x ≡ 0
  past x h l = g.others t x made.is_root h (λ _ i j. omega arith) ∙ made.empty x h

  -- ---- the frames

  -- a frame that a page has was free
  fresh_frame : (f x : ℕ) → x < 2 ^ 26 → frame_no (resolve s₂ t x) ≡ pool_no f → mark s₁.fmarks f ≡ 0
  fresh_frame f x h e =
      by_cases (dec_lt x (pages_to n))
      (λ l.
      let y = g.fresh x (omega arith) in
      let i : pages_to 0 + x ≡ x = omega arith in
      let same : y.frame ≡ f = omega (arith, y.entry, ap (resolve s₂ t) i) in
      ap (mark s₁.fmarks) (sym same) ∙ y.was_free)
      (λ l. absurd (omega (arith, past x h (omega arith))))

  module _ (w : ℕ) (s₃ : Store) (q : RootGone s₂ t w s₃) where
    many_frames : length s₃.fmarks ≡ length s₁.fmarks
    many_frames = omega (arith, q.sized.bytes, g.sized.bytes, ap (λ (l : List ℕ). length l) q.bytes, g.pool)

    frame_back : (f : ℕ) → f < length s₃.fmarks → mark s₃.fmarks f ≡ mark s₁.fmarks f
    frame_back f l =
        by_cases (ℕ_discrete (mark s₃.fmarks f) (mark s₁.fmarks f)) (λ e. e)
        (λ m.
        let none : (x : ℕ) → x < 2 ^ 26 → frame_no (resolve s₂ t x) ≡ pool_no f → ⊥ = λ x h e. m (q.freed x f h (omega (arith, many_frames, g.pool)) e ∙ sym (fresh_frame f x h e)) in
        q.kept f none ∙ (g.kept f (λ i h e. none (pages_to 0 + i) (omega (arith, small)) e)).mark)

    restored : (s₃.words ≡ s.words) × (s₃.tmarks ≡ s.tmarks) → Restored s s₃
    restored e = record {
      words = e.0;
      tmarks = e.1;
      fmarks = ext_get_or 0 s₃.fmarks s₁.fmarks many_frames frame_back ∙ ap (λ (y : Store). y.fmarks) d.1.1;
      bytes = λ f l k h.
          ap (λ (x : List ℕ). get_or x (4096 * f + k) 0) q.bytes
          ∙ (g.taken f (omega (arith, ap (λ (y : Store). mark y.fmarks f) d.1.1))).bytes k h
          ∙ ap (λ (y : Store). get_or y.bytes (4096 * f + k) 0) d.1.1;
    }

    -- the tables that the filling took, and the root
    answer : s₃.tmarks ≡ s.tmarks → w ≡ suc (missing s₁ t 0 (pages_to n))
    answer e =
        let i : pages_to 0 ≡ 0 = omega arith in
        let j : gained 0 n ≡ pages_to n = omega arith in
        omega (arith, made.taken, g.tables, q.tables, ap free e, ap₂ (missing s₁ t) i j)

    all_back : (s₃.words ≡ s.words) × (s₃.tmarks ≡ s.tmarks) → ◌≡◌ {A = Result ℕ Refusal} (Ok w) (Ok (suc (missing s₁ t 0 (pages_to n)))) × Restored s s₃
    all_back e = (ap Ok (answer e.1), restored e)

  -- ---- the release of k bytes, which are n

  module _ (k : ℕ) (e : n ≡ k) where
    asked₂ : Asked s₂ t (0 / 4096) (pages_to k)
    asked₂ = record { at_root = ready₂; pages = omega (arith, small) }

    entry : (i : ℕ) → i < pages_to k → (f : ℕ) × (resolve s₂ t (0 / 4096 + i) ≡ pool_entry f 31)
    entry i l =
        let y = g.fresh i (omega arith) in
        let j : 0 / 4096 + i ≡ pages_to 0 + i = omega arith in
        (y.frame, ap (resolve s₂ t) j ∙ y.entry)

    -- the pages can leave
    unmap_ready : UnmapReady s₂ t 0 (pages_to k) true
    unmap_ready = record {
      at_root = ready₂;
      below = λ h. omega (arith, small, h.1, h.2);
      aligned = omega arith;
      pages = record { foreign = λ m. true≢false m.0; mapped = λ i l. omega (arith, (entry i l).1); full = λ i l x. omega (arith, (entry i l).1) };
    }

    module _ (x : ℕ) (s' : Store) (m : Unmap s₂ t 0 (pages_to k) true (Ok x) s') where
      gone : Gone s₂ t (0 / 4096) (pages_to k) true s'
      gone = unmap_gone s₂ t 0 (pages_to k) true x s' asked₂ m

      unmapped : (p : ℕ) → p < 2 ^ 26 → resolve s' t p ≡ 0
      unmapped p h =
          by_cases (dec_lt p (pages_to k)) (λ l. let i : p ≡ 0 / 4096 + p = omega arith in ap (resolve s' t) i ∙ gone.gone p l)
          (λ l. gone.others t p ready₂.is_root h (λ _ i j. omega arith) ∙ past p h (omega arith))

      ready' : RootReady s' t
      ready' = still_root s₂ t (0 / 4096) (pages_to k) true s' ready₂.is_root gone

      -- and then the root can be freed
      free_ready : FreeReady s' t
      free_ready = record { at_root = ready'; unmapped = λ h. word_mapped s' gone.sized gone.well_formed t ready'.is_root h.0 h.1 h.2 (unmapped h.0 h.1) }

      others' : OtherTables s t s'
      others' =
          subst (OtherTables s t) (sym m.1.1)
          (left_too s (tree_of s z c) t made.was_free (pages_to k) s₂ (0 / 4096) true (leavable s₂ t (0 / 4096) (pages_to k) true (record { asked = asked₂; ready = unmap_ready.pages })) others₂)

  -- with no bytes there is nothing to unmap
  empty_ready : n ≡ 0 → FreeReady s₂ t
  empty_ready e = record { at_root = ready₂; unmapped = λ h. word_mapped s₂ g.sized g.well_formed t ready₂.is_root h.0 h.1 h.2 (past h.0 h.1 (omega arith)) }

  release : (k : ℕ) → n ≡ k → (a : Result ℕ Refusal) (s₃ : Store) → UvmFree t k s₂ a s₃ → (a ≡ Ok (suc (missing s₁ t 0 (pages_to n)))) × Restored s s₃
  release zero e (Err j) s₃ x = absurd (clear s₂ t (empty_ready e) _ x.0.applies)
  release zero e (Ok w) s₃ x = all_back w s₃ (uvm_free_gone t zero s₂ w s₃ ready₂ x) (tables_back s z c t made.was_free s₂ ready₂ others₂ w s₃ x)
  release (suc k) e (Err j) s₃ (inl x, _) = absurd (unmapping.clear s₂ t 0 (pages_to (suc k)) true (unmap_ready (suc k) e) _ x.0.applies)
  release (suc k) e (Err j) s₃ (inr (i, s', x, y), _) = absurd (clear s' t (free_ready (suc k) e i s' x) _ y.0.applies)
  release (suc k) e (Ok w) s₃ (i, s', x, y) =
      all_back w s₃ (uvm_free_gone t (suc k) s₂ w s₃ ready₂ (i, s', x, y)) (tables_back s z c t made.was_free s' (ready' (suc k) e i s' x) (others' (suc k) e i s' x) w s₃ y)

  -- `uvm_free` of the same n bytes is not refused, its answer counts the root and the tables that the filling took, and the store is as it was before the root
  pub lifetime : (a : Result ℕ Refusal) (s₃ : Store) → UvmFree t n s₂ a s₃ → (a ≡ Ok (suc (missing s₁ t 0 (pages_to n)))) × Restored s s₃
  lifetime = release n refl
