-- Pages of a new root that get fresh frames, and pages that leave, touch no table that was taken before. Assumes nothing.
use mathlib.Core.Path.{◌≡◌, refl, ap}
use mathlib.Core.Bool.{Bool}
use mathlib.Core.List.{List}
use Prim.Native.Nat.{ℕ, zero, suc, ◌+◌, ◌/◌, ◌^◌, ◌≤◌, ◌<◌}
use native.Mathlib.Omega.{arith}
use Rattle.store.specs.Store.{Store, Sized, mark}
use Rattle.store.specs.Count.{lowest, is_zero, free_tables}
use Rattle.store.specs.Walk.{slot_word, slot, entry_at}
use Rattle.store.proofs.Tree.{TreeOf, top}
use Rattle.store.proofs.Walk.{reach, top_of}
use Rattle.enter.specs.Enter.{hang, tabled}
use Rattle.enter.proofs.Step.{Step}
use Rattle.enter.proofs.Hang.{hung}
use Rattle.enter.proofs.EnterPage.{lacks, page_slot, tabled_there}
use Rattle.enter.proofs.EnterPages.{missing_first}
use Rattle.unmap.specs.Leave.{leave_slot, leave_page, leave_pages}
use Rattle.unmap.proofs.LeavePages as leaving
use Rattle.fresh.specs.Fill.{pool_entry, filled}
use Rattle.fresh.specs.Fresh.{fresh_page, fresh_pages}
use Rattle.fresh.proofs.FreshPages.{Growable, others_may}
use Rattle.fresh.proofs.GrownLaws.{Fillable}
use Rattle.process.proofs.OtherTables.{OtherTables, written, hung_too}

-- r was a free table of s
module _ (s : Store) (a : TreeOf s) (r : ℕ) (rf : mark s.tmarks r ≡ 0) where
  -- ---- page p gets its tables, and then a frame

  module _ (s' : Store) (z : Sized s') (b : TreeOf s') (p : ℕ) (rr : mark s'.tmarks r ≡ 1) (h : p < 2 ^ 26) (few : lacks s' r p ≤ free_tables s') (o : OtherTables s r s') where
    abbrev s₁ : Store
    s₁ = hang s' (slot (slot_word s'.words) r 0 (p / 512 / 512))

    t₁ : Step s' s₁ r 0 (p / 512 / 512) × (0 < entry_at s₁ r 0 (p / 512 / 512)) × (free_tables s' ≡ is_zero (entry_at s' r 0 (p / 512 / 512)) + free_tables s₁)
    unfolding slot top
    t₁ = hung s' z b r 0 (p / 512 / 512) rr (omega arith) (omega arith) (omega arith) (omega arith)

    o₁ : OtherTables s r s₁
    unfolding slot top
    o₁ = hung_too s a r rf s' b rr o 0 (p / 512 / 512) (omega arith) (omega arith) (omega arith) z (omega arith) (omega arith) (omega arith)

    same₁ : entry_at s₁ r 1 (p / 512) ≡ entry_at s' r 1 (p / 512)
    unfolding top
    same₁ = t₁.0.rest r 1 (p / 512) rr (omega arith) (omega arith) (λ i j k. omega arith)

    rr₁ : mark s₁.tmarks r ≡ 1
    rr₁ = (t₁.0.roots r).0 rr

    two₁ : 2 ≤ slot (slot_word s₁.words) r 1 (p / 512)
    unfolding top entry_at
    two₁ = reach t₁.0.tree r 0 (p / 512) rr₁ (omega arith) (omega arith) t₁.1

    tabled_too : OtherTables s r (tabled s' r p)
    unfolding tabled top
    tabled_too =
        hung_too s a r rf s₁ t₁.0.tree rr₁ o₁ 1 (p / 512) (omega arith) (omega arith) two₁ t₁.0.sized (omega arith) (omega arith) (omega (arith, t₁.2, ap is_zero same₁))

    fresh_too : (q : ℕ) (bs : List ℕ) → OtherTables s r (fresh_page s' r p q bs)
    unfolding fresh_page filled
    fresh_too q bs =
        let s₀ : Store = tabled s' r p in
        let g = tabled_there s' z b r p rr h few in
        let rr₀ = (g.roots r).0 rr in
        written s a r rf s₀ g.tree rr₀ tabled_too 2 p (omega (arith, top_of p h)) (omega arith) (page_slot s₀ g.tree r p rr₀ h g.block) (pool_entry (lowest s₀.fmarks) q)
        (fresh_page s' r p q bs) refl refl

  -- ---- pages that get fresh frames

  pub filled_too : (q : ℕ → ℕ) (bs : ℕ → List ℕ) → ((x : ℕ) → Fillable (q x) (bs x)) → (n : ℕ) (s' : Store) (p : ℕ) → Growable n s' r p → OtherTables s r s'
      → OtherTables s r (fresh_pages s' r p n q bs)
  unfolding fresh_pages
  filled_too q bs ok zero s' p c o = o
  filled_too q bs ok (suc n) s' p c o =
      let k : Fillable (q p) (bs p) = ok p in
      let h : p < 2 ^ 26 = omega (arith, c.range 0 (omega arith)) in
      filled_too q bs ok n (fresh_page s' r p (q p) (bs p)) (suc p) (others_may n s' r p c (q p) k.0 k.1 (bs p) k.2)
      (fresh_too s' c.sized c.tree p c.root h (omega (arith, c.tables, missing_first s' r p n)) o (q p) (bs p))

  -- ---- pages that leave

  pub left_too : (n : ℕ) (s' : Store) (p : ℕ) (freeing : Bool) → leaving.Leavable n s' r p freeing → OtherTables s r s' → OtherTables s r (leave_pages s' r p n freeing)
  unfolding leave_pages leave_slot
  left_too zero s' p freeing c o = o
  left_too (suc n) s' p freeing c o =
      let h : p < 2 ^ 26 = omega (arith, c.range 0 (omega arith)) in
      left_too n (leave_page s' r p freeing) (suc p) freeing (leaving.others_may n s' r p freeing c)
      (written s a r rf s' c.tree c.root o 2 p (omega (arith, top_of p h)) (omega arith) (leaving.first_slot n s' r p freeing c) 0 (leave_page s' r p freeing) refl refl)
