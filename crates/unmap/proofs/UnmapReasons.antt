-- The reasons of `uvm_unmap` in order, and what each way out of its judge says. Assumes nothing.
use mathlib.Core.Path.{◌≡◌, subst}
use mathlib.Core.Bool.{Bool}
use Prim.Native.Nat.{ℕ, suc, ◌+◌, ◌-◌, ◌/◌, ◌%◌, ◌^◌, ◌≤◌, ◌<◌}
use native.Mathlib.Nat.{le_refl}
use native.Mathlib.Decide.{ℕ_discrete, dec_le}
use mathlib.Core.Logic.{◌⊎◌, inl, inr, by_cases}
use native.Mathlib.Omega.{arith}
use Rattle.std.specs.Prelude.{Result, Ok, Err}
use Rattle.refusal.specs.declared.Refusal.{Refusal}
use Rattle.refusal.specs.Number.{number_of}
use Rattle.address.specs.Field.{bit}
use Rattle.page_table_entry.specs.Layout.{bit_v}
use Rattle.store.specs.Store.{Store}
use Rattle.store.specs.Walk.{resolve}
use Rattle.store.specs.Outcome.{Smallest, NoReason, Judges}
use Rattle.well_formed.specs.Root.{RootReason, RootReady}
use Rattle.well_formed.proofs.RootReasons.{root_clear, root_first}
use Rattle.walk.proofs.Calls.{root_in}
use Rattle.unmap.specs.Leave.{LeaveReason, pooled, unmapped, bare, LeaveReady}
use Rattle.unmap.specs.Unmap.{TooHigh, UnmapReason, at_root, too_high, unaligned, pages, UnmapReady}

-- where no page lies too high, the last one does not
pub within : (p k : ℕ) → 0 < k → (TooHigh p k → ⊥) → p + k ≤ 2 ^ 26
within p k h q = by_cases (dec_le (p + k) (2 ^ 26)) (λ y. y) (λ y. absurd (q (k - 1, omega arith, omega arith)))

-- pages are refused with 10 to 13
pub leave_range : {s : Store} {r p n : ℕ} {freeing : Bool} {k : ℕ} → LeaveReason s r p n freeing k → (10 ≤ k) × (k ≤ 13)
leave_range (pooled h) = omega arith
leave_range (unmapped i l h) = omega arith
leave_range (bare i l h) = omega arith

-- where they are ready none applies
pub leave_clear : {s : Store} {r p n : ℕ} {freeing : Bool} → LeaveReady s r p n freeing → (k : ℕ) → LeaveReason s r p n freeing k → ⊥
leave_clear f k (pooled h) = f.foreign h
leave_clear f k (unmapped i l h) = h (f.mapped i l)
leave_clear f k (bare i l h) = f.full i l h

-- and where none applies they are ready
pub leave_where : (s : Store) (r p n : ℕ) (freeing : Bool) → NoReason (LeaveReason s r p n freeing) → LeaveReady s r p n freeing
leave_where s r p n freeing none = record {
  foreign = λ m. none 10 (pooled m);
  mapped = λ i l. by_cases (ℕ_discrete (bit bit_v (resolve s r (p + i))) 1) (λ y. y) (λ y. absurd (none 11 (unmapped i l y)));
  full = λ i l b. none 13 (bare i l b);
}

-- pages none of which lies too high are pages of a root
pub in_reach : (s : Store) (root p n : ℕ) → RootReady s root → (TooHigh p n → ⊥) → (n ≡ 0 → ⊥) → (root < 512) × (p ≤ p + n) × (p + n ≤ 2 ^ 26)
in_reach s root p n r t h = (root_in s root r.sized r.is_root, omega arith, within p n (omega arith) t)

module _ (s : Store) (root va n : ℕ) (freeing : Bool) where
  abbrev R : ℕ → Type 0
  R = UnmapReason s root va n freeing

  abbrev F : Type 0
  F = UnmapReady s root va n freeing

  abbrev L : ℕ → Type 0
  L = LeaveReason s root (va / 4096) n freeing

  split : (k : ℕ) → R k → RootReason s root k ⊎ (3 < k)
  split k (at_root h) = inl h
  split k (too_high h) = inr (omega arith)
  split k (unaligned h) = inr (omega arith)
  split k (pages h) = inr (omega (arith, leave_range h))

  pub by_root : (j : ℕ) → Smallest (RootReason s root) j → Smallest R j
  by_root = root_first s root (λ k. at_root) split

  module _ (r : RootReady s root) where
    least : (j : ℕ) → (6 < j → TooHigh (va / 4096) n → ⊥) → (7 < j → va % 4096 ≡ 0) → ((k : ℕ) → k < j → L k → ⊥) → (k : ℕ) → k < j → R k → ⊥
    least j t a o k l (at_root h) = root_clear s root r k h
    least j t a o k l (too_high h) = t l h
    least j t a o k l (unaligned h) = h (a l)
    least j t a o k l (pages h) = o k l h

    -- below 10 no page is at fault
    early : (j : ℕ) → j ≤ 10 → (k : ℕ) → k < j → L k → ⊥
    early j h k l q = omega (arith, leave_range q)

    pub no_6 : TooHigh (va / 4096) n → Smallest R 6
    no_6 h = record { applies = too_high h; least = least 6 (λ l. absurd (omega arith)) (λ l. absurd (omega arith)) (early 6 (omega arith)) }

    module _ (t : TooHigh (va / 4096) n → ⊥) where
      pub no_7 : (va % 4096 ≡ 0 → ⊥) → Smallest R 7
      no_7 h = record { applies = unaligned h; least = least 7 (λ l. t) (λ l. absurd (omega arith)) (early 7 (omega arith)) }

      module _ (a : va % 4096 ≡ 0) where
        ready : LeaveReady s root (va / 4096) n freeing → F
        ready f = record { at_root = r; below = t; aligned = a; pages = f }

        pub by_pages : (j : Result Unit Refusal) → Judges L (LeaveReady s root (va / 4096) n freeing) j → Judges R F j
        by_pages (Ok u) f = ready f
        by_pages (Err k) m = record { applies = pages m.applies; least = least (number_of k) (λ l. t) (λ l. a) m.least }

        -- the judge of pages is asked about those from that of va up to the n-th after it
        pub by_range : (j : Result Unit Refusal) → Judges (LeaveReason s root (va / 4096) (va / 4096 + n - va / 4096) freeing) (LeaveReady s root (va / 4096) (va / 4096 + n - va / 4096) freeing) j → Judges R F j
        by_range j q =
            let e : va / 4096 + n - va / 4096 ≡ n = omega arith in
            by_pages j (subst (λ (k : ℕ). Judges (LeaveReason s root (va / 4096) k freeing) (LeaveReady s root (va / 4096) k freeing) j) e q)

  -- where the call is ready no reason applies
  pub clear : F → NoReason R
  clear f k = least f.at_root (suc k) (λ l. f.below) (λ l. f.aligned) (λ j l. leave_clear f.pages j) k (le_refl (suc k))
