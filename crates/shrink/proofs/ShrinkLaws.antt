-- What each way out of `uvm_dealloc` says, that two answers to one call are the same, and what a success means. Assumes nothing.
use mathlib.Core.Path.{◌≡◌, sym, ap₂, ◌∙◌, subst}
use mathlib.Core.Bool.{true}
use Prim.Native.Nat.{ℕ, ◌-◌, min}
use native.Mathlib.Omega.{arith}
use Rattle.std.specs.Prelude.{Result, Ok}
use Rattle.refusal.specs.declared.Refusal.{Refusal}
use Rattle.store.specs.Store.{Store}
use Rattle.store.proofs.Outcomes.{one_outcome}
use Rattle.well_formed.specs.Root.{Asked}
use Rattle.unmap.specs.Leave.{leave_pages}
use Rattle.unmap.specs.Gone.{Gone}
use Rattle.unmap.proofs.GoneLaws.{left_gone}
use Rattle.shrink.specs.Sizes.{pages_to}
use Rattle.shrink.specs.Shrink.{lost, ShrinkReason, pages, ShrinkReady, ShrinkDone, Shrink}
use Rattle.shrink.proofs.ShrinkReasons.{clear}

module _ (s : Store) (root old new : ℕ) where
  -- two answers to one call are the same, and so are the stores
  pub one_shrink : (a a' : Result ℕ Refusal) (t t' : Store) → Shrink s root old new a t → Shrink s root old new a' t' → (a ≡ a') × (t ≡ t')
  one_shrink = one_outcome (ShrinkReason s root old new) (ShrinkDone s root old new) (λ v v' t t' x y. (x.0 ∙ sym y.0, x.1 ∙ sym y.1)) s

  -- n pages from first on leave
  module _ (f : ShrinkReady s root old new) (first end n : ℕ) (ef : first ≡ pages_to new) (ee : end ≡ pages_to old) (en : n ≡ end - first) where
    same : n ≡ lost old new
    same = omega (arith, ef, ee, en)

    pub done : (v : ℕ) (s' : Store) → v ≡ min old new → s' ≡ leave_pages s root first n true → Shrink s root old new (Ok v) s'
    done v s' ev e = (clear s root old new f, (ev, e ∙ ap₂ (λ (x y : ℕ). leave_pages s root x y true) ef same))

  -- what a success means, where pages may be asked about: exactly the pages that new bytes do not take are gone
  pub shrink_gone : (v : ℕ) (s' : Store) → Asked s root (pages_to new) (lost old new) → Shrink s root old new (Ok v) s' → Gone s root (pages_to new) (lost old new) true s'
  shrink_gone v s' a u =
      subst (Gone s root (pages_to new) (lost old new) true) (sym u.1.1) (left_gone s root (pages_to new) (lost old new) true a (λ k x. u.0 k (pages x)))
