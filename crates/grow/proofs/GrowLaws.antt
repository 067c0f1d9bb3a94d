-- What each way out of `uvm_alloc` says, that two answers to one call are the same, and what a success means. Assumes nothing.
use mathlib.Core.Path.{◌≡◌, refl, sym, ap₂, ◌∙◌, subst}
use Prim.Native.Nat.{ℕ, ◌-◌, max}
use native.Mathlib.Omega.{arith}
use lib.ListN.{length-replicate}
use Rattle.std.specs.Prelude.{Result, Ok}
use Rattle.refusal.specs.declared.Refusal.{Refusal}
use Rattle.store.specs.Store.{Store}
use Rattle.store.proofs.Outcomes.{one_outcome}
use Rattle.well_formed.specs.Root.{Asked}
use Rattle.shrink.specs.Sizes.{pages_to}
use Rattle.fresh.specs.Fresh.{fresh_pages}
use Rattle.grow.specs.Grow.{gained, GrowReason, pages, GrowReady, zeroed, GrowDone, Grow}
use Rattle.fresh.specs.Grown.{Grown}
use Rattle.grow.proofs.GrowReasons.{clear}
use Rattle.fresh.proofs.GrownLaws.{pages_grown, growable_where}

module _ (s : Store) (root old new : ℕ) where
  -- two answers to one call are the same, and so are the stores
  pub one_grow : (a a' : Result ℕ Refusal) (t t' : Store) → Grow s root old new a t → Grow s root old new a' t' → (a ≡ a') × (t ≡ t')
  one_grow = one_outcome (GrowReason s root old new) (GrowDone s root old new) (λ v v' t t' x y. (x.0 ∙ sym y.0, x.1 ∙ sym y.1)) s

  abbrev after : ℕ → ℕ → Store
  after first n = fresh_pages s root first n (λ _. 31) (λ _. zeroed)

  -- n pages from first on get frames
  module _ (f : GrowReady s root old new) (first end n : ℕ) (ef : first ≡ pages_to old) (ee : end ≡ pages_to new) (en : n ≡ end - first) where
    same : n ≡ gained old new
    same = omega (arith, ef, ee, en)

    pub done : (v : ℕ) (s' : Store) → v ≡ max old new → s' ≡ after first n → Grow s root old new (Ok v) s'
    done v s' ev e = (clear s root old new f, (ev, e ∙ ap₂ after ef same))

  -- what a success means, where pages may be asked about: the pages that new bytes take and old bytes do not have frames of zeros
  pub grow_grown : (v : ℕ) (s' : Store) → Asked s root (pages_to old) (gained old new) → Grow s root old new (Ok v) s'
      → Grown s root (pages_to old) (gained old new) (λ _. 31) (λ _. zeroed) s'
  grow_grown v s' a u =
      subst (Grown s root (pages_to old) (gained old new) (λ _. 31) (λ _. zeroed)) (sym u.1.1)
      (pages_grown (λ _. 31) (λ _. zeroed) (gained old new) s root (pages_to old) (λ x l h. (refl, omega arith, length-replicate {A = ℕ} 4096 0))
      (growable_where s root (pages_to old) (gained old new) a (λ k x. u.0 k (pages x))))
