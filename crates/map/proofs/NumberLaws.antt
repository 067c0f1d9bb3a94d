-- What each way out of the judge of the numbers says. Assumes nothing.
use mathlib.Core.Path.{◌≡◌}
use mathlib.Core.Logic.{◌⊎◌, inl, inr, by_cases}
use Prim.Native.Nat.{ℕ, ◌+◌, ◌-◌, ◌/◌, ◌^◌, ◌≤◌, ◌<◌}
use native.Mathlib.Decide.{dec_lt}
use native.Mathlib.Omega.{arith}
use Rattle.rounding.specs.Range.{first_page, end_page}
use Rattle.store.specs.Outcome.{Smallest}
use Rattle.map.specs.Numbers.{pages_of, frame_at, InWindow, NumberReason, too_long, too_high, permissions, frame_high, held, NumbersReady}

module _ (va pa size perm : ℕ) where
  abbrev R : ℕ → Type 0
  R = NumberReason va pa size perm

  abbrev F : Type 0
  F = NumbersReady va pa size perm

  abbrev Pages : Type 0
  Pages = first_page va < end_page va size → end_page va size ≤ 2 ^ 26

  abbrev Low : Type 0
  Low = (i : ℕ) → i < pages_of va size → frame_at pa i < 2 ^ 44

  abbrev Outside : Type 0
  Outside = (i : ℕ) → i < pages_of va size → InWindow (frame_at pa i) → ⊥

  -- no reason below n applies, where what each of them denies holds
  least : (n : ℕ) → (6 < n → (size ≤ 2 ^ 38) × Pages) → (8 < n → perm ≤ 1023) → (9 < n → Low) → (10 < n → Outside) → (k : ℕ) → k < n → R k → ⊥
  least n a b c d k l (too_long h) = omega (arith, (a l).0)
  least n a b c d k l (too_high p f e h) = omega (arith, (a l).1 (omega arith))
  least n a b c d k l (permissions h) = omega (arith, b l)
  least n a b c d k l (frame_high i h q) = omega (arith, c l i h)
  least n a b c d k l (held i h q) = d l i h q

  pub ready_least : F → (k n : ℕ) → k < n → R k → ⊥
  ready_least f k n l = least n (λ _. (f.length, f.pages)) (λ _. f.perms) (λ _. f.frames) (λ _. f.outside) k l

  module _ (first end : ℕ) (ef : first ≡ first_page va) (ee : end ≡ end_page va size) where
    pub high : (2 ^ 38 < size) ⊎ ((first < end) × (2 ^ 26 < end)) → Smallest R 6
    high h = record { applies = six h; least = least 6 (λ l. absurd (omega arith)) (λ l. absurd (omega arith)) (λ l. absurd (omega arith)) (λ l. absurd (omega arith)) }
      where
        six : (2 ^ 38 < size) ⊎ ((first < end) × (2 ^ 26 < end)) → R 6
        six (inl s) = too_long s
        six (inr q) = too_high (end - 1) (omega (arith, q.0)) (omega (arith, q.0)) (omega (arith, q.1))

    module _ (s : size ≤ 2 ^ 38) (q : first < end → end ≤ 2 ^ 26) where
      fits : (size ≤ 2 ^ 38) × Pages
      fits = (s, λ h. omega (arith, q (omega arith)))

      pub perm_high : 1023 < perm → Smallest R 8
      perm_high p = record { applies = permissions p; least = least 8 (λ l. fits) (λ l. absurd (omega arith)) (λ l. absurd (omega arith)) (λ l. absurd (omega arith)) }

      module _ (p : perm ≤ 1023) (h : first < end) where
        pub above : 2 ^ 44 < pa / 4096 + (end - first) → Smallest R 9
        above u = record { applies = frame_high (end - first - 1) (omega arith) (omega arith); least = least 9 (λ l. fits) (λ l. p) (λ l. absurd (omega arith)) (λ l. absurd (omega arith)) }

        pub in_window : pa / 4096 + (end - first) ≤ 2 ^ 44 → 0x10_0000 < pa / 4096 + (end - first) → pa / 4096 < 0x12_0000 → Smallest R 10
        in_window u v w = record { applies = meets; least = least 10 (λ l. fits) (λ l. p) (λ l i k. omega arith) (λ l. absurd (omega arith)) }
          where
            meets : R 10
            meets =
                by_cases (dec_lt (pa / 4096) 0x10_0000) (λ b. held (0x10_0000 - pa / 4096) (omega arith) (record { from = omega arith; upto = omega arith }))
                (λ b. held 0 (omega arith) (record { from = omega arith; upto = omega arith }))
