-- The reasons of `map` in order, and what each way out of its judge says. Assumes nothing.
use mathlib.Core.Path.{◌≡◌, sym, ap, ◌∙◌}
use mathlib.Core.Logic.{◌⊎◌, inl, inr}
use Prim.Native.Nat.{ℕ, suc, ◌-◌, ◌≤◌, ◌<◌}
use native.Mathlib.Nat.{le_refl}
use native.Mathlib.Omega.{arith}
use Rattle.rounding.specs.Range.{first_page, end_page}
use Rattle.store.specs.Store.{Store}
use Rattle.store.specs.Count.{free_tables}
use Rattle.store.specs.Outcome.{NoReason, Smallest}
use Rattle.well_formed.specs.Root.{RootReason, RootReady}
use Rattle.well_formed.proofs.RootReasons.{root_clear, root_first}
use Rattle.walk.specs.Mapped.{Mapped}
use Rattle.walk.specs.Missing.{entry_in, missing_in, missing}
use Rattle.walk.specs.Ranges.{PagesAlike}
use Rattle.walk.proofs.MissingLaws.{missing_in_lem, missing_none}
use Rattle.walk.proofs.Counts.{one_has, none_has}
use Rattle.walk.proofs.Pages.{counted_mapped, mapped_counted}
use Rattle.map.specs.Numbers.{pages_of, NumberReason, NumbersReady, too_long, too_high, permissions, frame_high, held}
use Rattle.map.specs.Reasons.{MapReason, at_root, numbers, taken, too_few, MapReady}
use Rattle.map.proofs.NumberLaws.{ready_least}

-- the numbers alone are refused with 6 to 10
number_range : {va pa size perm k : ℕ} → NumberReason va pa size perm k → (6 ≤ k) × (k ≤ 10)
number_range (too_long h) = omega arith
number_range (too_high p f e h) = omega arith
number_range (permissions h) = omega arith
number_range (frame_high i h q) = omega arith
number_range (held i h q) = omega arith

module _ (s : Store) (root va pa size perm : ℕ) where
  abbrev R : ℕ → Type 0
  R = MapReason s root va pa size perm

  abbrev F : Type 0
  F = MapReady s root va pa size perm

  abbrev N : ℕ → Type 0
  N = NumberReason va pa size perm

  abbrev Unmapped : Type 0
  Unmapped = (p : ℕ) → first_page va ≤ p → p < end_page va size → Mapped s root p → ⊥

  abbrev Enough : Type 0
  Enough = missing s root (first_page va) (pages_of va size) ≤ free_tables s

  split : (k : ℕ) → R k → RootReason s root k ⊎ (3 < k)
  split k (at_root h) = inl h
  split k (numbers h) = inr (omega (arith, number_range h))
  split k (taken p f t h) = inr (omega arith)
  split k (too_few h) = inr (omega arith)

  pub by_root : {n : ℕ} → Smallest (RootReason s root) n → Smallest R n
  by_root {n} = root_first s root (λ k. at_root) split n

  module _ (r : RootReady s root) where
    least : (n : ℕ) → ((k : ℕ) → k < n → N k → ⊥) → (14 < n → Unmapped) → (17 < n → Enough) → (k : ℕ) → k < n → R k → ⊥
    least n o u e k l (at_root h) = root_clear s root r k h
    least n o u e k l (numbers h) = o k l h
    least n o u e k l (taken p f t h) = u l p f t h
    least n o u e k l (too_few h) = omega (arith, e l)

    pub no_numbers_lem : {n : ℕ} → Smallest N n → Smallest R n
    no_numbers_lem {n} m =
        let b = number_range m.applies in
        record { applies = numbers m.applies; least = least n m.least (λ l. absurd (omega arith)) (λ l. absurd (omega arith)) }

    module _ (o : NumbersReady va pa size perm) (first end : ℕ) (ef : first ≡ first_page va) (ee : end ≡ end_page va size) where
      fine : (n k : ℕ) → k < n → N k → ⊥
      fine n k l = ready_least va pa size perm o k n l

      pages : pages_of va size ≡ end - first
      pages = omega arith

      -- no page is asked for
      pub nothing : end ≤ first → F
      nothing h =
          record {
            at_root = r;
            numbers = o;
            unmapped = λ p f t. absurd (omega arith);
            enough = let q : pages_of va size ≡ 0 = omega arith in omega (arith, ap (missing s root (first_page va)) q, missing_none s root (first_page va));
          }

      module _ (h : first < end) where
        lacks : (m : ℕ) → m ≡ missing_in s.words root first (end - first) → m ≡ missing s root (first_page va) (pages_of va size)
        lacks m e = e ∙ missing_in_lem s root first (end - first) ∙ ap (λ (p : ℕ). missing s root p (end - first)) ef ∙ ap (missing s root (first_page va)) (sym pages)

        -- c of the pages are mapped
        module _ (c : ℕ) (count : PagesAlike s.words root first end 1 1 c) where
          pub no_14 : (c ≡ 0 → ⊥) → Smallest R 14
          no_14 n =
              let q = one_has (entry_in s.words root 2) 1 1 first end c (omega arith) count (omega arith) in
              record {
                applies = taken q.0 (omega (arith, q.1)) (omega (arith, q.2)) (counted_mapped s root q.0 q.3);
                least = least 14 (λ k l. fine 14 k l) (λ l. absurd (omega arith)) (λ l. absurd (omega arith));
              }

          free_range : c ≡ 0 → Unmapped
          free_range n p f t m =
              none_has (entry_in s.words root 2) 1 1 first end c (omega arith) count n p (omega arith) (omega arith) (mapped_counted s root p m)

          module _ (n : c ≡ 0) (m : ℕ) (em : m ≡ missing_in s.words root first (end - first)) where
            pub no_17 : (m ≤ free_tables s → ⊥) → Smallest R 17
            no_17 l =
                record {
                  applies = too_few (omega (arith, lacks m em));
                  least = least 17 (λ k l. fine 17 k l) (λ l. free_range n) (λ l. absurd (omega arith));
                }

            pub all_ready : m ≤ free_tables s → F
            all_ready l =
                record { at_root = r; numbers = o; unmapped = free_range n; enough = omega (arith, lacks m em) }

  -- where the call is ready no reason applies
  pub clear : F → NoReason R
  clear f k = least f.at_root (suc k) (λ j l. ready_least va pa size perm f.numbers j (suc k) l) (λ l. f.unmapped) (λ l. f.enough) k (le_refl (suc k))
