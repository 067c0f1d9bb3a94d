-- What lies on the way of a string where no reason applies. Assumes nothing.
use mathlib.Core.Path.{◌≡◌, subst}
use mathlib.Core.Logic.{◌⊎◌, inl, inr, by_cases}
use Prim.Native.Nat.{ℕ, zero, suc, ◌+◌, ◌≤◌, ◌<◌}
use native.Mathlib.Decide.{dec_lt}
use native.Mathlib.Omega.{arith}
use Rattle.store.specs.Store.{Store}
use Rattle.store.specs.Outcome.{Smallest, NoReason}
use Rattle.well_formed.specs.Root.{RootReason}
use Rattle.well_formed.proofs.RootReasons.{root_first}
use Rattle.copies.specs.Needed.{PageReady, Needs}
use Rattle.strings.specs.Str.{Passed, StrReason, at_root, page, str_length}
use Rattle.copies.proofs.PageReasons.{page_range, page_where}
use Rattle.strings.proofs.StrLaws.{str_le, str_before}

module _ (s : Store) (root va max : ℕ) where
  -- 1, 2 and 3 come before the numbers of a page
  pub by_root : (n : ℕ) → Smallest (RootReason s root) n → Smallest (StrReason s root va max) n
  by_root = root_first s root (λ k. at_root) split
    where
      split : (k : ℕ) → StrReason s root va max k → RootReason s root k ⊎ (3 < k)
      split k (at_root x) = inl x
      split k (page i d p x) = inr (omega (arith, (page_range x).0))

  module _ (none : NoReason (StrReason s root va max)) where
    way : (i : ℕ) → i ≤ str_length s root va max → (j : ℕ) → j < i → Passed s root (va + j)
    way zero h j l = absurd (omega arith)
    way (suc i) h j l =
        by_cases (dec_lt j i) (way i (omega arith) j)
        (λ n.
        let e : i ≡ j = omega arith in
        subst (λ (x : ℕ). Passed s root (va + x)) e (record {
          page = λ k x. none k (page i (inl (omega (arith, str_le s root va max))) (way i (omega arith)) x);
          more = str_before s root va max i h;
        }))

    -- the pages up to the zero, or to the end, can be used
    pub str_pages : (i : ℕ) → i ≤ str_length s root va max → Needs max i → PageReady s root (va + i)
    str_pages i u d = page_where s root (va + i) (λ k x. none k (page i d (way i u) x))
