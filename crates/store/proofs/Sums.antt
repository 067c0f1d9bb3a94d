-- Finite sums, and counting the same things twice. Assumes nothing.
use mathlib.Core.Path.{◌≡◌, refl, sym, ap, ◌∙◌}
use Prim.Native.Nat.{ℕ, zero, suc, ◌+◌, ◌-◌, ◌*◌, ◌≤◌, ◌<◌}
use native.Mathlib.Omega.{arith}
use native.Mathlib.Nat.{add-zero, add-suc, mul-zero, zero-mul, suc-mul, mul-add}
use native.Mathlib.Decide.{ℕ_discrete, dec_lt}
use borrow.Author.Tests.{eq-eqb, ne_eqb}
use Rattle.store.specs.Sum.{sum, same}

-- ---- same

-- its two values
pub same_yes : (a b : ℕ) → a ≡ b → same a b ≡ 1
unfolding same
same_yes a b e = rw (eq-eqb a b e)

pub same_no : (a b : ℕ) → (a ≡ b → ⊥) → same a b ≡ 0
unfolding same
same_no a b ne = rw (ne_eqb a b ne)

-- it is not 0 only where the two are equal
pub same_one : (a b : ℕ) → 0 < same a b → a ≡ b
same_one a b h = go (ℕ_discrete a b)
  where
    go : Dec (a ≡ b) → a ≡ b
    go (yes e) = e
    go (no ne) = absurd (omega (arith, same_no a b ne))

-- a factor `same` keeps the other factor, or drops it
pub same_times : (a b c : ℕ) → a ≡ b → same a b * c ≡ c
same_times a b c e = rw (same_yes a b e) (omega arith)

pub same_none : (a b c : ℕ) → (a ≡ b → ⊥) → same a b * c ≡ 0
same_none a b c ne = rw (same_no a b ne) (omega arith)

-- ---- sums of functions that are equal, zero, ordered

-- equal terms, equal sums
pub sum_cong : (g h : ℕ → ℕ) (n : ℕ) → ((i : ℕ) → i < n → g i ≡ h i) → sum g n ≡ sum h n
unfolding sum
sum_cong g h zero e = refl
sum_cong g h (suc n) e = omega (arith, sum_cong g h n (λ i l. e i (omega arith)), e n (omega arith))

-- terms that are 0
pub sum_zero : (g : ℕ → ℕ) (n : ℕ) → ((i : ℕ) → i < n → g i ≡ 0) → sum g n ≡ 0
unfolding sum
sum_zero g zero e = refl
sum_zero g (suc n) e = omega (arith, sum_zero g n (λ i l. e i (omega arith)), e n (omega arith))

-- smaller terms, a smaller sum
pub sum_le : (g h : ℕ → ℕ) (n : ℕ) → ((i : ℕ) → i < n → g i ≤ h i) → sum g n ≤ sum h n
unfolding sum
sum_le g h zero o = omega arith
sum_le g h (suc n) o = omega (arith, sum_le g h n (λ i l. o i (omega arith)), o n (omega arith))

-- equal sums of ordered functions: the functions are equal
pub sum_pinch : (g h : ℕ → ℕ) (n : ℕ) → ((i : ℕ) → i < n → g i ≤ h i) → sum g n ≡ sum h n → (i : ℕ) → i < n → g i ≡ h i
unfolding sum
sum_pinch g h zero o e i l = absurd (omega arith)
sum_pinch g h (suc n) o e i l = go (ℕ_discrete i n) (sum_pinch g h n before (omega (arith, sum_le g h n before, o n (omega arith))) i)
  where
    before : (j : ℕ) → j < n → g j ≤ h j
    before j q = o j (omega arith)

    go : Dec (i ≡ n) → (i < n → g i ≡ h i) → g i ≡ h i
    go (yes p) ih = rw p (omega (arith, sum_le g h n before, o n (omega arith)))
    go (no np) ih = ih (omega arith)

-- ---- sums of sums

-- term by term
pub sum_add : (g h : ℕ → ℕ) (n : ℕ) → sum (λ i. g i + h i) n ≡ sum g n + sum h n
unfolding sum
sum_add g h zero = refl
sum_add g h (suc n) = omega (arith, sum_add g h n)

-- a common factor
pub sum_scale : (c : ℕ) (g : ℕ → ℕ) (n : ℕ) → sum (λ i. c * g i) n ≡ c * sum g n
unfolding sum
sum_scale c g zero = sym (mul-zero c)
sum_scale c g (suc n) = omega (arith, sum_scale c g n, mul-add c (sum g n) (g n))

-- row by row, and column by column
pub sum_swap : (g : ℕ → ℕ → ℕ) (n m : ℕ) → sum (λ i. sum (λ j. g i j) m) n ≡ sum (λ j. sum (λ i. g i j) n) m
unfolding sum
sum_swap g zero m = sym (sum_zero (λ j. 0) m (λ j l. refl))
sum_swap g (suc n) m = omega (arith, sum_swap g n m, sum_add (λ j. sum (λ i. g i j) n) (λ j. g n j) m)

-- the first m, and the k after them
pub sum_split : (g : ℕ → ℕ) (m k : ℕ) → sum g (m + k) ≡ sum g m + sum (λ i. g (m + i)) k
unfolding sum
sum_split g m zero = rw (add-zero m) (omega arith)
sum_split g m (suc k) = rw add-suc (omega (arith, sum_split g m k))

-- a long sum, in m blocks of length k
pub sum_blocks : (g : ℕ → ℕ) (m k : ℕ) → sum g (m * k) ≡ sum (λ t. sum (λ i. g (t * k + i)) k) m
unfolding sum
sum_blocks g zero k = rw zero-mul
sum_blocks g (suc m) k = rw suc-mul (omega (arith, sum_split g (m * k) k, sum_blocks g m k))

-- ---- one index, two indices

-- a term is at most the sum
pub at_most : (g : ℕ → ℕ) (n i : ℕ) → i < n → g i ≤ sum g n
unfolding sum
at_most g zero i l = absurd (omega arith)
at_most g (suc n) i l = go (ℕ_discrete i n) (at_most g n i)
  where
    go : Dec (i ≡ n) → (i < n → g i ≤ sum g n) → g i ≤ sum g n + g n
    go (yes e) ih = rw e (omega arith)
    go (no ne) ih = omega (arith, ih (omega arith))

-- and so are two terms together
pub sum_two : (g : ℕ → ℕ) (n i j : ℕ) → i < n → j < n → (i ≡ j → ⊥) → g i + g j ≤ sum g n
unfolding sum
sum_two g zero i j l m ne = absurd (omega arith)
sum_two g (suc n) i j l m ne = go (ℕ_discrete i n) (ℕ_discrete j n) (λ p q. sum_two g n i j p q ne)
  where
    go : Dec (i ≡ n) → Dec (j ≡ n) → (i < n → j < n → g i + g j ≤ sum g n) → g i + g j ≤ sum g n + g n
    go (yes e) (yes f) ih = absurd (ne (omega arith))
    go (yes e) (no nf) ih = omega (arith, ap g e, at_most g n j (omega arith))
    go (no me) (yes f) ih = omega (arith, ap g f, at_most g n i (omega arith))
    go (no me) (no nf) ih = omega (arith, ih (omega arith) (omega arith))

-- a sum that is not 0 has a term that is not 0
pub sum_some : (g : ℕ → ℕ) (n : ℕ) → 0 < sum g n → (i : ℕ) × (i < n) × (0 < g i)
unfolding sum
sum_some g zero h = absurd (omega arith)
sum_some g (suc n) h = go (dec_lt 0 (g n)) (sum_some g n)
  where
    go : Dec (0 < g n) → (0 < sum g n → (i : ℕ) × (i < n) × (0 < g i)) → (i : ℕ) × (i < suc n) × (0 < g i)
    go (yes p) ih = (n, omega arith, p)
    go (no np) ih = let r = ih (omega arith) in (r.0, omega (arith, r.1), r.2)

-- a sum whose terms are 0 but that at k
pub sum_only : (g : ℕ → ℕ) (n k : ℕ) → k < n → ((i : ℕ) → i < n → (i ≡ k → ⊥) → g i ≡ 0) → sum g n ≡ g k
unfolding sum
sum_only g zero k l z = absurd (omega arith)
sum_only g (suc n) k l z = go (ℕ_discrete n k) (λ q. sum_only g n k q (λ i p. z i (omega arith)))
  where
    go : Dec (n ≡ k) → (k < n → sum g n ≡ g k) → sum g n + g n ≡ g k
    go (yes e) ih = omega (arith, ap g e, sum_zero g n (λ i p. z i (omega arith) (λ q. omega arith)))
    go (no ne) ih = omega (arith, ih (omega arith), z n (omega arith) ne)

-- `same` picks the term at k, and none where k is past the end
pub sum_at : (g : ℕ → ℕ) (n k : ℕ) → k < n → sum (λ i. same i k * g i) n ≡ g k
sum_at g n k l = sum_only (λ i. same i k * g i) n k l (λ i p. same_none i k (g i)) ∙ same_times k k (g k) refl

-- ---- counting by marks

-- each t of weight is counted at one w, namely k t - 2; where h t is 0, the mark does not matter
pub marks_swap : (k h : ℕ → ℕ) (T N : ℕ) → ((t : ℕ) → t < T → 0 < h t → (2 ≤ k t) × (k t < N + 2)) → sum (λ w. sum (λ t. same (k t) (w + 2) * h t) T) N ≡ sum h T
marks_swap k h T N m = sum_swap (λ w t. same (k t) (w + 2) * h t) N T ∙ sum_cong (λ t. sum (λ w. same (k t) (w + 2) * h t) N) h T (λ t l. go t (dec_lt 0 (h t)) (m t l))
  where
    go : (t : ℕ) → Dec (0 < h t) → (0 < h t → (2 ≤ k t) × (k t < N + 2)) → sum (λ w. same (k t) (w + 2) * h t) N ≡ h t
    go t (yes p) b =
        let r = b p in
        sum_only (λ w. same (k t) (w + 2) * h t) N (k t - 2) (omega (arith, r.0, r.1)) (λ w l ne. same_none (k t) (w + 2) (h t) (λ e. ne (omega arith)))
        ∙ same_times (k t) (k t - 2 + 2) (h t) (omega (arith, r.0))
    go t (no np) b =
        let z : h t ≡ 0 = omega arith in
        sum_zero (λ w. same (k t) (w + 2) * h t) N (λ w l. rw z (mul-zero (same (k t) (w + 2)))) ∙ sym z
