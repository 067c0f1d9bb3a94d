-- What giving pages fresh frames means: they have them, and all other pages and frames are as they were. Assumes nothing.
use mathlib.Core.Path.{◌≡◌, refl, sym, ap, ◌∙◌, subst}
use mathlib.Core.Logic.{inl, inr, by_cases}
use mathlib.Core.List.{List}
use Prim.Native.Nat.{ℕ, zero, suc, ◌+◌, ◌*◌, ◌%◌, ◌^◌, ◌≤◌, ◌<◌}
use native.Mathlib.Nat.{add-zero, add-suc, suc-add}
use native.Mathlib.Decide.{dec_lt}
use native.Mathlib.Omega.{arith}
use lib.ListN.{length, get_or}
use Rattle.store.specs.Store.{Store, Sized, mark, frame_no, pool_no}
use Rattle.store.specs.Count.{lowest, free_tables, free_frames}
use Rattle.store.specs.Walk.{resolve}
use Rattle.store.specs.Outcome.{NoReason}
use Rattle.store.proofs.Tree.{top, well_formed_of}
use Rattle.walk.specs.Missing.{missing}
use Rattle.walk.proofs.MissingLaws.{missing_none}
use Rattle.enter.proofs.EnterPage.{part}
use Rattle.well_formed.specs.Root.{Asked}
use Rattle.fresh.specs.Fill.{pool_entry}
use Rattle.fresh.specs.Fresh.{FreshReason, taken, no_frames, no_tables, FreshReady, fresh_page, fresh_pages}
use Rattle.fresh.specs.Grown.{FreshAt, FrameKept, Grown}
use Rattle.fresh.proofs.FrameBytes.{framed_here, framed_other}
use Rattle.fresh.proofs.FreshPage.{PageFresh}
use Rattle.fresh.proofs.FreshPages.{Growable, growable, first_fresh, fresh_step, others_may}

-- flags and bytes that a page can have: V and no bit above the ten, and a whole frame
abbrev pub Fillable : ℕ → List ℕ → Type 0
Fillable q b = (q % 2 ≡ 1) × (q < 1024) × (length b ≡ 4096)

-- frame f after one page has got another
pub other_frame : (s s' : Store) (r p q g : ℕ) (b : List ℕ) → Sized s → length b ≡ 4096 → PageFresh s s' r p q g b → (f : ℕ) → (f ≡ g → ⊥) → FrameKept s f s'
other_frame s s' r p q g b z l a f n = record {
  mark = a.kept f n;
  bytes = λ k h.
      ap (λ (x : List ℕ). get_or x (4096 * f + k) 0) a.bytes
      ∙ framed_other s.bytes g b l (omega (arith, z.bytes, a.there)) (4096 * f + k) (by_cases (dec_lt f g) (λ o. inl (omega arith)) (λ o. inr (omega arith)));
}

module _ (q : ℕ → ℕ) (b : ℕ → List ℕ) where
  -- the first page, and then the n after it
  module _ (n : ℕ) (s : Store) (r p : ℕ) (ok : Fillable (q p) (b p)) (c : Growable (suc n) s r p) (s₂ : Store) where
    abbrev s₁ : Store
    s₁ = fresh_page s r p (q p) (b p)

    abbrev f₀ : ℕ
    f₀ = lowest s.fmarks

    g : PageFresh s (fresh_page s r p (q p) (b p)) r p (q p) (lowest s.fmarks) (b p)
    g = first_fresh n s r p c (q p) ok.0 ok.1 (b p) ok.2

    h : p + n < 2 ^ 26
    h = c.range n (omega arith)

    next : (i : ℕ) → suc p + i ≡ p + suc i
    next i = suc-add p i ∙ sym (add-suc p i)

    other : (f : ℕ) → (f ≡ f₀ → ⊥) → FrameKept s f s₁
    other = other_frame s s₁ r p (q p) f₀ (b p) c.sized ok.2 g

    module _ (t : Grown s₁ r (suc p) n q b s₂) where
      first : resolve s₂ r p ≡ pool_entry f₀ (q p)
      first = t.others r p ((g.roots r).0 c.root) (omega (arith, h)) (λ a x y. omega arith) ∙ g.here

      both : (f : ℕ) → FrameKept s f s₁ → FrameKept s₁ f s₂ → FrameKept s f s₂
      both f x y = record { mark = y.mark ∙ x.mark; bytes = λ k l. y.bytes k l ∙ x.bytes k l }

      fresh_first : FreshAt s r p (q p) (b p) s₂
      fresh_first = record {
        frame = f₀;
        there = g.there;
        was_free = g.was_free;
        entry = first;
        bytes = λ k l.
            (t.taken f₀ (omega (arith, g.marked))).bytes k l ∙ ap (λ (x : List ℕ). get_or x (4096 * f₀ + k) 0) g.bytes
            ∙ framed_here s.bytes f₀ (b p) ok.2 (omega (arith, c.sized.bytes, g.there)) k l;
      }

      fresh_later : (x : ℕ) → FreshAt s₁ r x (q x) (b x) s₂ → FreshAt s r x (q x) (b x) s₂
      fresh_later x y = record {
        frame = y.frame;
        there = omega (arith, y.there, g.frames);
        was_free = sym (g.kept y.frame (λ e. omega (arith, y.was_free, g.marked, ap (mark s₁.fmarks) e))) ∙ y.was_free;
        entry = y.entry;
        bytes = y.bytes;
      }

      fresh : (i : ℕ) → i < suc n → FreshAt s r (p + i) (q (p + i)) (b (p + i)) s₂
      fresh zero l = subst (λ (x : ℕ). FreshAt s r x (q x) (b x) s₂) (sym (add-zero p)) fresh_first
      fresh (suc i) l = subst (λ (x : ℕ). FreshAt s r x (q x) (b x) s₂) (next i) (fresh_later (suc p + i) (t.fresh i (omega arith)))

      kept : (f : ℕ) → ((i : ℕ) → i < suc n → frame_no (resolve s₂ r (p + i)) ≡ pool_no f → ⊥) → FrameKept s f s₂
      kept f k =
          both f (other f (λ e. k 0 (omega arith) (ap (λ (x : ℕ). frame_no (resolve s₂ r x)) (add-zero p) ∙ ap frame_no first ∙ (omega (arith, ok.1)))))
          (t.kept f (λ i l e. k (suc i) (omega arith) (ap (λ (x : ℕ). frame_no (resolve s₂ r x)) (sym (next i)) ∙ e)))

      stays : (f : ℕ) → 0 < mark s.fmarks f → FrameKept s f s₂
      stays f l =
          let o = other f (λ e. omega (arith, g.was_free, ap (mark s.fmarks) e)) in
          both f o (t.taken f (omega (arith, o.mark)))

      then : Grown s r p (suc n) q b s₂
      unfolding top part
      then = record {
        sized = t.sized;
        well_formed = t.well_formed;
        fresh = fresh;
        others = λ r' x rr l o.
            t.others r' x ((g.roots r').0 rr) l (λ a u v. o a (omega arith) (omega arith))
            ∙ g.rest r' 2 x rr (omega arith) (omega arith) (λ a d. o a (omega arith) (omega arith));
        roots = λ y. (λ e. (t.roots y).0 ((g.roots y).0 e), λ e. (g.roots y).1 ((t.roots y).1 e));
        kept = kept;
        taken = stays;
        pool = t.pool ∙ g.frames;
        tables = omega (arith, t.tables, g.tables, fresh_step n s r p c (q p) ok.0 ok.1 (b p) ok.2);
        frames = omega (arith, t.frames, g.free);
      }

  pub pages_grown : (n : ℕ) (s : Store) (r p : ℕ) → ((x : ℕ) → p ≤ x → x < p + n → Fillable (q x) (b x)) → Growable n s r p → Grown s r p n q b (fresh_pages s r p n q b)
  unfolding fresh_pages
  pages_grown zero s r p ok c = record {
    sized = c.sized;
    well_formed = well_formed_of s c.sized c.tree;
    fresh = λ i l. absurd (omega arith);
    others = λ r' x rr l o. refl;
    roots = λ t. (λ e. e, λ e. e);
    kept = λ f k. record { mark = refl; bytes = λ k l. refl };
    taken = λ f l. record { mark = refl; bytes = λ k l. refl };
    pool = refl;
    tables = omega (arith, missing_none s r p);
    frames = omega arith;
  }
  pages_grown (suc n) s r p ok c =
      let k : Fillable (q p) (b p) = ok p (omega arith) (omega arith) in
      then n s r p k c (fresh_pages (fresh_page s r p (q p) (b p)) r (suc p) n q b)
      (pages_grown n (fresh_page s r p (q p) (b p)) r (suc p) (λ x l h. ok x (omega arith) (omega arith)) (others_may n s r p c (q p) k.0 k.1 (b p) k.2))

-- where no reason applies the pages are ready
pub ready_where : (s : Store) (r p n : ℕ) → NoReason (FreshReason s r p n) → FreshReady s r p n
ready_where s r p n clear = record {
  unmapped = λ i l m. clear 14 (taken i l m);
  frames = by_cases (dec_lt (free_frames s) n) (λ l. absurd (clear 16 (no_frames l))) (λ l. omega arith);
  tables = by_cases (dec_lt (free_tables s) (missing s r p n)) (λ l. absurd (clear 17 (no_tables l))) (λ l. omega arith);
}

-- where they may also be asked about, they can get fresh frames
pub growable_where : (s : Store) (r p n : ℕ) → Asked s r p n → NoReason (FreshReason s r p n) → Growable n s r p
growable_where s r p n a clear = growable s r p n (record { asked = a; ready = ready_where s r p n clear })
