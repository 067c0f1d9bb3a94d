-- `fresh_page`: the page has its tables and a frame that was free, and every other walk, mark and byte is as it was. Assumes nothing.
use mathlib.Core.Path.{◌≡◌, sym, ap, ◌∙◌, subst}
use mathlib.Core.Logic.{◌↔◌}
use mathlib.Core.List.{List, [], ◌∷◌}
use Prim.Native.Nat.{ℕ, zero, suc, ◌+◌, ◌/◌, ◌%◌, ◌^◌, ◌≤◌, ◌<◌}
use native.Mathlib.Omega.{arith}
use lib.ListN.{length, set, length-set}
use Rattle.store.specs.Store.{Store, Sized, mark}
use Rattle.store.specs.Count.{lowest, free, free_tables, free_frames}
use Rattle.store.specs.Walk.{slot_word, slot, entry_at}
use Rattle.store.proofs.Tree.{TreeOf, top}
use Rattle.store.proofs.Walk.{top_of}
use Rattle.enter.specs.Enter.{tabled}
use Rattle.enter.proofs.Step.{in_words}
use Rattle.enter.proofs.Write.{leaf_level}
use Rattle.enter.proofs.EnterPage.{part, lacks, page_slot, Tabled, tabled_there}
use Rattle.fresh.specs.Fill.{pool_entry, framed, filled}
use Rattle.fresh.specs.Fresh.{fresh_page}
use Rattle.fresh.proofs.FillPage.{Filled, slot_filled}

-- page p of root r got pool frame f with the flags q; it was free and holds b
pub record PageFresh (s s' : Store) (r p q f : ℕ) (b : List ℕ) : Type 0 where
  pub sized : Sized s'
  pub tree : TreeOf s'
  pub roots : (t : ℕ) → (mark s.tmarks t ≡ 1) ↔ (mark s'.tmarks t ≡ 1)
  pub here : entry_at s' r 2 p ≡ pool_entry f q
  pub group : 0 < entry_at s' r 0 (p / 512 / 512)
  pub block : 0 < entry_at s' r 1 (p / 512)
  pub rest : (r' d x : ℕ) → mark s.tmarks r' ≡ 1 → top d x < 256 → d ≤ 2 → (r' ≡ r → x ≡ part d p → ⊥) → entry_at s' r' d x ≡ entry_at s r' d x
  pub there : f < length s.fmarks
  pub was_free : mark s.fmarks f ≡ 0
  pub marked : 2 ≤ mark s'.fmarks f
  pub kept : (j : ℕ) → (j ≡ f → ⊥) → mark s'.fmarks j ≡ mark s.fmarks j
  pub above : suc f ≤ lowest s'.fmarks
  pub frames : length s'.fmarks ≡ length s.fmarks
  pub tables : free_tables s ≡ lacks s r p + free_tables s'
  pub free : free_frames s ≡ suc (free_frames s')
  pub bytes : s'.bytes ≡ framed s.bytes f b

-- once the lowest free mark is set, the lowest free one lies above it
pub lowest_rises : (ms : List ℕ) (m : ℕ) → lowest ms < length ms → 0 < m → suc (lowest ms) ≤ lowest (set ms (lowest ms) m)
lowest_rises [] m l o = absurd (omega arith)
lowest_rises (zero ∷ ms) zero l o = absurd (omega arith)
lowest_rises (zero ∷ ms) (suc m) l o = omega arith
lowest_rises (suc x ∷ ms) m l o = omega (arith, lowest_rises ms m (omega arith) o)

module _ (s : Store) (z : Sized s) (w : TreeOf s) (r p : ℕ) (rr : mark s.tmarks r ≡ 1) (h : p < 2 ^ 26) (few : lacks s r p ≤ free_tables s) where
  -- the store with the page's tables
  abbrev s₀ : Store
  s₀ = tabled s r p

  g : Tabled s (tabled s r p) r p
  g = tabled_there s z w r p rr h few

  rr₀ : mark (tabled s r p).tmarks r ≡ 1
  rr₀ = (g.roots r).0 rr

  m2 : 2 ≤ slot (slot_word (tabled s r p).words) r 2 p
  m2 = page_slot s₀ g.tree r p rr₀ h g.block

  -- the page's slot is one that a mark can hold
  pub slot_small : slot (slot_word (tabled s r p).words) r 2 p < 2 ^ 32
  slot_small =
      let l = leaf_level s₀ g.sized g.tree r p 0 rr₀ (top_of p h) m2 in
      omega (arith, in_words s₀ g.sized g.tree (slot (slot_word s₀.words) r 2 p) m2 (omega (arith, l)), g.sized.words, g.sized.tables_to)

  module _ (none : entry_at s r 2 p ≡ 0) (some : 0 < free_frames s) (q : ℕ) (qv : q % 2 ≡ 1) (q10 : q < 1024) (b : List ℕ) (lb : length b ≡ 4096) where
    none₀ : entry_at (tabled s r p) r 2 p ≡ 0
    unfolding top
    none₀ = g.rest r 2 p rr (omega arith) (omega arith) (λ a c d. omega arith) ∙ none

    fill : Filled (tabled s r p) (fresh_page s r p q b) r p q (lowest s.fmarks) b
    unfolding fresh_page
    fill =
        subst (λ (x : List ℕ). Filled s₀ (filled s₀ (slot (slot_word s₀.words) r 2 p) q b) r p q (lowest x) b) g.fmarks
        (slot_filled s₀ g.sized g.tree r p rr₀ h g.block none₀ (omega (arith, ap free g.fmarks)) q qv q10 b lb)

    same_frames : length (fresh_page s r p q b).fmarks ≡ length s.fmarks
    unfolding fresh_page filled
    same_frames = length-set s₀.fmarks (lowest s₀.fmarks) (slot (slot_word s₀.words) r 2 p) ∙ ap length g.fmarks

    rises : suc (lowest s.fmarks) ≤ lowest (fresh_page s r p q b).fmarks
    unfolding fresh_page filled
    rises =
        let m : ℕ = slot (slot_word s₀.words) r 2 p in
        subst (λ (x : List ℕ). suc (lowest s.fmarks) ≤ lowest (set x (lowest x) m)) (sym g.fmarks)
        (lowest_rises s.fmarks m (omega (arith, fill.there, ap length g.fmarks)) (omega (arith, m2)))

    pub fresh_page_lem : PageFresh s (fresh_page s r p q b) r p q (lowest s.fmarks) b
    unfolding top part
    fresh_page_lem = record {
      sized = fill.sized;
      tree = fill.tree;
      roots = λ t. (
        λ e. ap (λ (x : List ℕ). mark x t) fill.tmarks ∙ (g.roots t).0 e,
        λ e. (g.roots t).1 (sym (ap (λ (x : List ℕ). mark x t) fill.tmarks) ∙ e),
      );
      here = fill.here;
      group = omega (arith, fill.rest r 0 (p / 512 / 512) rr₀ (omega arith) (omega arith) (λ a c d. omega arith), g.group);
      block = omega (arith, fill.rest r 1 (p / 512) rr₀ (omega arith) (omega arith) (λ a c d. omega arith), g.block);
      rest = λ r' d x e l o n.
          fill.rest r' d x ((g.roots r').0 e) l o (λ a c f. n c (f ∙ ap (λ (y : ℕ). part y p) (sym a))) ∙ g.rest r' d x e l o (λ _ c f. n c f);
      there = omega (arith, fill.there, ap length g.fmarks);
      was_free = ap (λ (x : List ℕ). mark x (lowest s.fmarks)) (sym g.fmarks) ∙ fill.was_free;
      marked = omega (arith, fill.marked, m2);
      kept = λ j n. fill.kept j n ∙ ap (λ (x : List ℕ). mark x j) g.fmarks;
      above = rises;
      frames = same_frames;
      tables = omega (arith, g.free, ap free fill.tmarks);
      free = omega (arith, fill.free, ap free g.fmarks);
      bytes = fill.bytes ∙ ap (λ (x : List ℕ). framed x (lowest s.fmarks) b) g.bytes;
    }
