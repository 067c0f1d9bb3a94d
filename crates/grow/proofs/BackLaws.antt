-- What `uvm_alloc` took, `uvm_dealloc` of the same sizes gives back. Assumes nothing.
use mathlib.Core.Path.{◌≡◌, refl, sym, ap, ap₂, ◌∙◌, subst}
use mathlib.Core.Logic.{inl, inr, by_cases}
use mathlib.Core.Bool.{true, true≢false}
use mathlib.Core.List.{List}
use Prim.Native.Nat.{ℕ, zero, suc, ◌+◌, ◌-◌, ◌*◌, ◌^◌, ◌≤◌, ◌<◌}
use native.Mathlib.Nat.{add-zero, add-suc, suc-add}
use native.Mathlib.Decide.{ℕ_discrete, dec_lt}
use native.Mathlib.Omega.{arith}
use lib.ListN.{get_or}
use Rattle.std.specs.Prelude.{Result, Ok, Err}
use Rattle.refusal.specs.declared.Refusal.{Refusal}
use Rattle.store.specs.Store.{Store, mark, frame_no, pool_no}
use Rattle.store.specs.Count.{free}
use Rattle.store.specs.Walk.{resolve}
use Rattle.store.specs.Outcome.{NoReason}
use Rattle.well_formed.specs.Root.{RootReady, Asked}
use Rattle.unmap.specs.Leave.{PoolFrame}
use Rattle.unmap.specs.Gone.{pool_pages, Gone}
use Rattle.unmap.proofs.LeavePage.{pool_one}
use Rattle.shrink.specs.Sizes.{pages_to, too_large}
use Rattle.grow.specs.Grow.{gained, sizes, pages, zeroed, Grow}
use Rattle.shrink.specs.Shrink.{ShrinkReason, ShrinkReady, Shrink}
use Rattle.fresh.specs.Grown.{Grown, Back}
use Rattle.shrink.proofs.ShrinkReasons.{clear}
use Rattle.shrink.proofs.ShrinkLaws.{shrink_gone}
use Rattle.fresh.proofs.FreshPages.{Growable}
use Rattle.fresh.proofs.GrownLaws.{growable_where}
use Rattle.grow.proofs.GrowLaws.{grow_grown}

-- where each of the pages has a pool frame, they have as many as they are
all_pool : (n : ℕ) (s : Store) (r p : ℕ) → ((i : ℕ) → i < n → PoolFrame s (resolve s r (p + i))) → pool_pages s r p n ≡ n
unfolding pool_pages
all_pool zero s r p h = refl
all_pool (suc n) s r p h =
    let one = pool_one s (resolve s r p) (subst (λ (x : ℕ). PoolFrame s (resolve s r x)) (add-zero p) (h 0 (omega arith))) in
    let rest = all_pool n s r (suc p) (λ i l. subst (λ (x : ℕ). PoolFrame s (resolve s r x)) (add-suc p i ∙ sym (suc-add p i)) (h (suc i) (omega arith))) in
    omega (arith, one, rest)

module _ (s : Store) (root old new : ℕ) (a : Asked s root (pages_to old) (gained old new)) (v : ℕ) (s₁ : Store) (u : Grow s root old new (Ok v) s₁) where
  abbrev p : ℕ
  p = pages_to old

  abbrev n : ℕ
  n = gained old new

  g : Grown s root (pages_to old) (gained old new) (λ _. 31) (λ _. zeroed) s₁
  g = grow_grown s root old new v s₁ a u

  c : Growable (gained old new) s root (pages_to old)
  c = growable_where s root (pages_to old) (gained old new) a (λ k x. u.0 k (pages x))

  pool : (i : ℕ) → i < n → PoolFrame s₁ (resolve s₁ root (p + i))
  pool i l = let y = g.fresh i l in record { frame = y.frame; there = omega (arith, y.there, g.pool); number = omega (arith, y.entry) }

  at_root₁ : RootReady s₁ root
  at_root₁ = record { sized = g.sized; formed = g.well_formed; is_root = (g.roots root).0 a.at_root.is_root }

  ready : ShrinkReady s₁ root new old
  ready = record {
    sizes = record {
      at_root = at_root₁;
      old_small = by_cases (dec_lt (2 ^ 38) new) (λ l. absurd (u.0 6 (sizes (too_large (inr l))))) (λ l. omega arith);
      new_small = by_cases (dec_lt (2 ^ 38) old) (λ l. absurd (u.0 6 (sizes (too_large (inl l))))) (λ l. omega arith);
    };
    pages = record {
      foreign = λ m. true≢false m.0;
      mapped = λ i l. omega (arith, (g.fresh i l).entry);
      full = λ i l e. omega (arith, (g.fresh i l).entry);
    };
  }

  -- `uvm_dealloc` is not refused
  pub back_taken : NoReason (ShrinkReason s₁ root new old)
  back_taken = clear s₁ root new old ready

  module _ (s₂ : Store) (o : Gone s₁ root (pages_to old) (gained old new) true s₂) where
    -- a page that got a frame, and this frame
    page_back : (i : ℕ) → i < n → resolve s₂ root (p + i) ≡ resolve s root (p + i)
    page_back i l = o.gone i l ∙ sym (c.unmapped i l)

    frame_back : (f i : ℕ) → i < n → frame_no (resolve s₁ root (p + i)) ≡ pool_no f → mark s₂.fmarks f ≡ mark s.fmarks f
    frame_back f i l e =
        let y = g.fresh i l in
        let same : y.frame ≡ f = omega (arith, y.entry) in
        o.freed refl i f l (omega (arith, same, y.there, g.pool)) e ∙ sym (ap (mark s.fmarks) (sym same) ∙ y.was_free)

    back : Back s root p n s₂
    back = record {
      sized = o.sized;
      well_formed = o.well_formed;
      roots = λ t. (
        λ e. ap (λ (x : List ℕ). mark x t) o.tmarks ∙ (g.roots t).0 e,
        λ e. (g.roots t).1 (sym (ap (λ (x : List ℕ). mark x t) o.tmarks) ∙ e),
      );
      pages = λ r x rr l.
          by_cases (ℕ_discrete (resolve s₂ r x) (resolve s r x)) (λ e. e) (λ m.
          let other : r ≡ root → p ≤ x → x < p + n → ⊥ = λ e y k.
          let at : p + (x - p) ≡ x = omega arith in
          m (ap₂ (resolve s₂) e (sym at) ∙ page_back (x - p) (omega arith) ∙ sym (ap₂ (resolve s) e (sym at))) in
          o.others r x ((g.roots r).0 rr) l other ∙ g.others r x rr l other);
      marks = λ f.
          by_cases (ℕ_discrete (mark s₂.fmarks f) (mark s.fmarks f)) (λ e. e) (λ m. o.kept f (λ _ i l e. m (frame_back f i l e)) ∙ (g.kept f (λ i l e. m (frame_back f i l e))).mark);
      bytes = λ f l k h. ap (λ (x : List ℕ). get_or x (4096 * f + k) 0) o.bytes ∙ (g.taken f l).bytes k h;
      frames = omega (arith, o.frames, g.frames, all_pool n s₁ root p pool);
      tables = omega (arith, g.tables, ap free o.tmarks);
    }

  -- it answers old, and everything is as before
  pub grown_back : old ≤ new → (r : Result ℕ Refusal) (s₂ : Store) → Shrink s₁ root new old r s₂ → (r ≡ Ok old) × Back s root (pages_to old) (gained old new) s₂
  grown_back h (Err k) s₂ x = absurd (back_taken _ x.0.applies)
  grown_back h (Ok w) s₂ x = (
    ap Ok (omega (arith, x.1.0, h)),
    back s₂ (shrink_gone s₁ root new old w s₂ (record { at_root = at_root₁; pages = a.pages }) x),
  )
