-- Why pages may not get fresh frames, from the counts of a judge. Assumes nothing.
use mathlib.Core.Path.{◌≡◌, ap, subst}
use Prim.Native.Nat.{ℕ, ◌+◌, ◌-◌, ◌≤◌, ◌<◌}
use native.Mathlib.Omega.{arith}
use Rattle.store.specs.Store.{Store}
use Rattle.store.specs.Count.{free_tables, free_frames}
use Rattle.store.specs.Outcome.{Smallest}
use Rattle.walk.specs.Mapped.{Mapped}
use Rattle.walk.specs.Missing.{entry_in, missing_in, missing}
use Rattle.walk.specs.Ranges.{PagesAlike}
use Rattle.walk.proofs.Counts.{one_has, none_has}
use Rattle.walk.proofs.Pages.{counted_mapped, mapped_counted}
use Rattle.walk.proofs.MissingLaws.{missing_none}
use Rattle.fresh.specs.Fresh.{FreshReason, taken, no_frames, no_tables, FreshReady}

-- their numbers
pub fresh_range : {s : Store} {r p n k : ℕ} → FreshReason s r p n k → (14 ≤ k) × (k ≤ 17)
fresh_range (taken i l h) = omega arith
fresh_range (no_frames h) = omega arith
fresh_range (no_tables h) = omega arith

-- where the pages are ready none applies
pub fresh_clear : {s : Store} {r p n : ℕ} → FreshReady s r p n → (k : ℕ) → FreshReason s r p n k → ⊥
fresh_clear f k (taken i l h) = f.unmapped i l h
fresh_clear f k (no_frames h) = omega (arith, f.frames)
fresh_clear f k (no_tables h) = omega (arith, f.tables)

-- no pages are always ready
pub fresh_none : (s : Store) (r p n : ℕ) → n ≡ 0 → FreshReady s r p n
fresh_none s r p n e = record {
  unmapped = λ i l. absurd (omega arith);
  frames = omega arith;
  tables = omega (arith, missing_none s r p, ap (missing s r p) e);
}

module _ (s : Store) (r p e : ℕ) (l : p ≤ e) where
  abbrev R : ℕ → Type 0
  R = FreshReason s r p (e - p)

  abbrev F : Type 0
  F = FreshReady s r p (e - p)

  abbrev g : ℕ → ℕ
  g = entry_in s.words r 2

  least : (n : ℕ) → (14 < n → (i : ℕ) → i < e - p → Mapped s r (p + i) → ⊥) → (16 < n → e - p ≤ free_frames s) → (17 < n → missing s r p (e - p) ≤ free_tables s)
      → (k : ℕ) → k < n → R k → ⊥
  least n m f t k q (taken i x h) = m q i x h
  least n m f t k q (no_frames h) = omega (arith, f q)
  least n m f t k q (no_tables h) = omega (arith, t q)

  module _ (c : ℕ) (count : PagesAlike s.words r p e 1 1 c) where
    pub no_14 : (c ≡ 0 → ⊥) → Smallest R 14
    no_14 h =
        let q = one_has g 1 1 p e c l count (omega arith) in
        let x : q.0 ≡ p + (q.0 - p) = omega (arith, q.1) in
        record {
          applies = taken (q.0 - p) (omega (arith, q.1, q.2)) (subst (Mapped s r) x (counted_mapped s r q.0 q.3));
          least = least 14 (λ y. absurd (omega arith)) (λ y. absurd (omega arith)) (λ y. absurd (omega arith));
        }

    module _ (z : c ≡ 0) where
      none : (i : ℕ) → i < e - p → Mapped s r (p + i) → ⊥
      none i x m = none_has g 1 1 p e c l count z (p + i) (omega arith) (omega arith) (mapped_counted s r (p + i) m)

      pub no_16 : (e - p ≤ free_frames s → ⊥) → Smallest R 16
      no_16 h = record { applies = no_frames (omega arith); least = least 16 (λ _. none) (λ y. absurd (omega arith)) (λ y. absurd (omega arith)) }

      module _ (h : e - p ≤ free_frames s) (m : ℕ) (lacking : m ≡ missing_in s.words r p (e - p)) where
        lacks : m ≡ missing s r p (e - p)
        unfolding missing
        lacks = lacking

        pub no_17 : (m ≤ free_tables s → ⊥) → Smallest R 17
        no_17 q = record { applies = no_tables (omega (arith, lacks)); least = least 17 (λ _. none) (λ _. omega arith) (λ y. absurd (omega arith)) }

        pub all_ready : m ≤ free_tables s → F
        all_ready q = record { unmapped = none; frames = omega arith; tables = omega (arith, lacks) }
