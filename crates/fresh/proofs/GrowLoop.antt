-- The loop that gives pages fresh frames: what holds before each page, at the start and at the end. Assumes nothing.
use mathlib.Core.Path.{◌≡◌, sym, ap, ap₂, ◌∙◌, subst}
use mathlib.Core.List.{List}
use Prim.Native.Nat.{ℕ, suc, ◌+◌, ◌-◌, ◌%◌, ◌≤◌, ◌<◌}
use native.Mathlib.Omega.{arith}
use lib.ListN.{length}
use Rattle.store.specs.Store.{Store}
use Rattle.store.specs.Count.{lowest}
use Rattle.enter.proofs.Hang.{lowest_free}
use Rattle.fresh.specs.Fresh.{fresh_page, fresh_pages, FrameFits}
use Rattle.fresh.proofs.FreshPages.{Growable, frame_fits, first_fresh, others_may}

-- i of n pages have their frames, s is the store so far, and it has no free frame below a
pub record Growing (s₀ : Store) (r p n : ℕ) (q : ℕ → ℕ) (b : ℕ → List ℕ) (s : Store) (i a : ℕ) : Type 0 where
  pub within : i ≤ n
  pub ready : Growable (n - i) s r (p + i)
  pub from : a ≤ lowest s.fmarks
  pub whole : fresh_pages s₀ r p n q b ≡ fresh_pages s r (p + i) (n - i) q b

pub start : (s : Store) (r p n : ℕ) (q : ℕ → ℕ) (b : ℕ → List ℕ) → Growable n s r p → Growing s r p n q b s 0 0
start s r p n q b c =
    let a : p ≡ p + 0 = omega arith in
    let k : n ≡ n - 0 = omega arith in
    record {
      within = omega arith;
      ready = subst (λ (x : ℕ). Growable (n - 0) s r x) a (subst (λ (x : ℕ). Growable x s r p) k c);
      from = omega arith;
      whole = ap₂ (λ (x y : ℕ). fresh_pages s r x y q b) a k;
    }

module _ (s₀ : Store) (r p n : ℕ) (q : ℕ → ℕ) (b : ℕ → List ℕ) (s : Store) (i a : ℕ) (g : Growing s₀ r p n q b s i a) where
  -- the last page has its frame
  pub done : n ≤ i → s ≡ fresh_pages s₀ r p n q b
  unfolding fresh_pages
  done h = let k : n - i ≡ 0 = omega arith in sym (g.whole ∙ ap (λ (x : ℕ). fresh_pages s r (p + i) x q b) k)

  module _ (h : i < n) where
    more : Growable (suc (n - (i + 1))) s r (p + i)
    more = let k : n - i ≡ suc (n - (i + 1)) = omega arith in subst (λ (x : ℕ). Growable x s r (p + i)) k g.ready

    -- what the code of the next page asks
    pub fits : FrameFits s.words s.tmarks s.fmarks r (p + i) a
    fits = frame_fits (n - (i + 1)) s r (p + i) more a g.from

    -- its frame is one of the pool
    pub there : lowest s.fmarks < length s.fmarks
    there = (lowest_free s.fmarks (omega (arith, more.frames))).0

    -- what holds after it
    pub next : q (p + i) % 2 ≡ 1 → q (p + i) < 1024 → length (b (p + i)) ≡ 4096
        → Growing s₀ r p n q b (fresh_page s r (p + i) (q (p + i)) (b (p + i))) (i + 1) (suc (lowest s.fmarks))
    unfolding fresh_pages
    next qv q10 lb =
        let s₁ : Store = fresh_page s r (p + i) (q (p + i)) (b (p + i)) in
        let k : n - i ≡ suc (n - (i + 1)) = omega arith in
        let c : suc (p + i) ≡ p + (i + 1) = omega arith in
        record {
          within = omega arith;
          ready = subst (λ (x : ℕ). Growable (n - (i + 1)) s₁ r x) c (others_may (n - (i + 1)) s r (p + i) more (q (p + i)) qv q10 (b (p + i)) lb);
          from = (first_fresh (n - (i + 1)) s r (p + i) more (q (p + i)) qv q10 (b (p + i)) lb).above;
          whole = g.whole ∙ ap (λ (x : ℕ). fresh_pages s r (p + i) x q b) k ∙ ap (λ (x : ℕ). fresh_pages s₁ r x (n - (i + 1)) q b) c;
        }
