-- The reasons of `uvm_alloc` in order, and what each way out of its judge says. Assumes nothing.
use mathlib.Core.Path.{◌≡◌, subst₂}
use mathlib.Core.Logic.{◌⊎◌, inl, inr}
use Prim.Native.Nat.{ℕ, ◌-◌, ◌≤◌}
use native.Mathlib.Omega.{arith}
use Rattle.std.specs.Prelude.{Result}
use Rattle.refusal.specs.declared.Refusal.{Refusal}
use Rattle.store.specs.Store.{Store}
use Rattle.store.specs.Outcome.{NoReason, Smallest, Judges}
use Rattle.store.proofs.Outcomes.{first_found, then_judged}
use Rattle.shrink.specs.Sizes.{pages_to, SizeReason, SizeReady}
use Rattle.fresh.specs.Fresh.{FreshReason, FreshReady}
use Rattle.grow.specs.Grow.{gained, GrowReason, sizes, pages, GrowReady}
use Rattle.shrink.proofs.SizeReasons.{size_upto, size_clear}
use Rattle.fresh.proofs.FreshReasons.{fresh_range, fresh_clear, fresh_none}

module _ (s : Store) (root old new : ℕ) where
  abbrev R : ℕ → Type 0
  R = GrowReason s root old new

  abbrev F : Type 0
  F = GrowReady s root old new

  split : (k : ℕ) → R k → SizeReason s root old new k ⊎ FreshReason s root (pages_to old) (gained old new) k
  split k (sizes h) = inl h
  split k (pages h) = inr h

  pub by_sizes : (n : ℕ) → Smallest (SizeReason s root old new) n → Smallest R n
  by_sizes = first_found split (λ k. sizes) (λ j k a b. omega (arith, size_upto a, fresh_range b))

  -- the judge of pages is asked about those from first up to end
  module _ (z : SizeReady s root old new) (first end : ℕ) (ef : first ≡ pages_to old) (ee : end ≡ pages_to new) where
    pub by_pages : (n : Result Unit Refusal) → Judges (FreshReason s root first (end - first)) (FreshReady s root first (end - first)) n → Judges R F n
    by_pages n q =
        then_judged split (λ k. pages) (size_clear s root old new z) (λ f. record { sizes = z; pages = f }) n
        (subst₂ (λ (x y : ℕ). Judges (FreshReason s root x (y - x)) (FreshReady s root x (y - x)) n) ef ee q)

    pub no_pages : end ≤ first → F
    no_pages h = record { sizes = z; pages = fresh_none s root (pages_to old) (gained old new) (omega (arith, ef, ee)) }

  -- where the call is ready no reason applies
  pub clear : F → NoReason R
  clear f k (sizes h) = size_clear s root old new f.sizes k h
  clear f k (pages h) = fresh_clear f.pages k h
