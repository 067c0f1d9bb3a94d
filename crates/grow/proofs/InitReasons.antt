-- The reasons of `uvm_init` in order, and what each way out of its judge says. Assumes nothing.
use mathlib.Core.Path.{refl}
use mathlib.Core.Logic.{◌⊎◌, inl, inr, ⊎_elim}
use mathlib.Core.List.{List}
use Prim.Native.Nat.{ℕ, ◌-◌, ◌≤◌, ◌<◌}
use native.Mathlib.Omega.{arith}
use lib.ListN.{length}
use Rattle.std.specs.Prelude.{Result, Ok, Err}
use Rattle.refusal.specs.declared.Refusal.{Refusal}
use Rattle.refusal.specs.Number.{number_of}
use Rattle.store.specs.Store.{Store}
use Rattle.store.specs.Outcome.{NoReason, Smallest, Judges}
use Rattle.store.proofs.Outcomes.{Just, first_found, then_found, just_one}
use Rattle.well_formed.specs.Root.{RootReason, RootReady, Asked}
use Rattle.well_formed.proofs.RootReasons.{root_upto, root_clear}
use Rattle.fresh.specs.Fresh.{FreshReason, FreshReady}
use Rattle.grow.specs.Init.{InitReason, at_root, too_long, page, InitReady}
use Rattle.fresh.proofs.FreshReasons.{fresh_range, fresh_clear}

module _ (s : Store) (root : ℕ) (src : List ℕ) where
  abbrev R : ℕ → Type 0
  R = InitReason s root src

  abbrev F : Type 0
  F = InitReady s root src

  -- the reasons after those of the root
  abbrev Rest : ℕ → Type 0
  Rest k = Just 5 (4096 ≤ length src) k ⊎ FreshReason s root 0 1 k

  split : (k : ℕ) → R k → RootReason s root k ⊎ Rest k
  split k (at_root h) = inl h
  split k (too_long h) = inr (inl (refl, h))
  split k (page h) = inr (inr h)

  above : (k : ℕ) → Rest k → 5 ≤ k
  above k = ⊎_elim (λ h. omega (arith, h.0)) (λ h. omega (arith, fresh_range h))

  join : (k : ℕ) → Rest k → R k
  join k (inl (e, h)) = rw e (too_long h)
  join k (inr h) = page h

  pub by_root : (n : ℕ) → Smallest (RootReason s root) n → Smallest R n
  by_root = first_found split (λ k. at_root) (λ j k a b. omega (arith, root_upto a, above k b))

  module _ (r : RootReady s root) where
    pub no_5 : 4096 ≤ length src → Smallest R 5
    no_5 h =
        then_found split join (root_clear s root r) 5 (first_found (λ k x. x) (λ k. inl) (λ j k a b. omega (arith, a.0, fresh_range b)) 5 (just_one 5 (4096 ≤ length src) h))

    pub asked : Asked s root 0 (1 - 0)
    asked = record { at_root = r; pages = omega arith }

    pub by_page : length src < 4096 → (n : Result Unit Refusal) → Judges (FreshReason s root 0 1) (FreshReady s root 0 1) n → Judges R F n
    by_page h (Ok u) f = record { at_root = r; short = h; page = f }
    by_page h (Err k) m = then_found split join (root_clear s root r) (number_of k) (then_found (λ k x. x) (λ k. inr) (λ k x. omega (arith, x.1)) (number_of k) m)

  -- where the call is ready no reason applies
  pub clear : F → NoReason R
  clear f k (at_root h) = root_clear s root f.at_root k h
  clear f k (too_long h) = omega (arith, f.short)
  clear f k (page h) = fresh_clear f.page k h
