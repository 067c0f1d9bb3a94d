-- The reasons of `uvm_dealloc` in order, and what each way out of its judge says. Assumes nothing.
use mathlib.Core.Path.{◌≡◌, subst₂}
use mathlib.Core.Logic.{◌⊎◌, inl, inr}
use mathlib.Core.Bool.{true}
use Prim.Native.Nat.{ℕ, ◌-◌}
use native.Mathlib.Omega.{arith}
use Rattle.std.specs.Prelude.{Result}
use Rattle.refusal.specs.declared.Refusal.{Refusal}
use Rattle.store.specs.Store.{Store}
use Rattle.store.specs.Outcome.{NoReason, Smallest, Judges}
use Rattle.store.proofs.Outcomes.{first_found, then_judged}
use Rattle.unmap.specs.Leave.{LeaveReason, LeaveReady}
use Rattle.unmap.proofs.UnmapReasons.{leave_range, leave_clear}
use Rattle.shrink.specs.Sizes.{pages_to, SizeReason, SizeReady}
use Rattle.shrink.specs.Shrink.{lost, ShrinkReason, sizes, pages, ShrinkReady}
use Rattle.shrink.proofs.SizeReasons.{size_upto, size_clear}

module _ (s : Store) (root old new : ℕ) where
  abbrev R : ℕ → Type 0
  R = ShrinkReason s root old new

  abbrev F : Type 0
  F = ShrinkReady s root old new

  split : (k : ℕ) → R k → SizeReason s root old new k ⊎ LeaveReason s root (pages_to new) (lost old new) true k
  split k (sizes h) = inl h
  split k (pages h) = inr h

  pub by_sizes : (n : ℕ) → Smallest (SizeReason s root old new) n → Smallest R n
  by_sizes = first_found split (λ k. sizes) (λ j k a b. omega (arith, size_upto a, leave_range b))

  -- the judge of pages is asked about those from first up to end
  module _ (z : SizeReady s root old new) (first end : ℕ) (ef : first ≡ pages_to new) (ee : end ≡ pages_to old) where
    pub by_pages : (n : Result Unit Refusal) → Judges (LeaveReason s root first (end - first) true) (LeaveReady s root first (end - first) true) n → Judges R F n
    by_pages n q =
        then_judged split (λ k. pages) (size_clear s root old new z) (λ f. record { sizes = z; pages = f }) n
        (subst₂ (λ (x y : ℕ). Judges (LeaveReason s root x (y - x) true) (LeaveReady s root x (y - x) true) n) ef ee q)

  -- where the call is ready no reason applies
  pub clear : F → NoReason R
  clear f k (sizes h) = size_clear s root old new f.sizes k h
  clear f k (pages h) = leave_clear f.pages k h
