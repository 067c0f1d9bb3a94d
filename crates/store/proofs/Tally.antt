-- Counting the words of tables, and the marks that name them. Assumes nothing.
use mathlib.Core.Path.{◌≡◌, sym, ◌∙◌}
use Prim.Native.Nat.{ℕ, ◌+◌, ◌*◌, ◌/◌, ◌≤◌, ◌<◌}
use native.Mathlib.Nat.{mul_comm}
use native.Mathlib.Omega.{arith}
use native.Mathlib.Decide.{ℕ_discrete}
use Rattle.store.specs.Sum.{sum, same}
use Rattle.store.proofs.Sums.{same_times, same_none, sum_cong, sum_zero, sum_scale, sum_blocks, sum_only, sum_at, marks_swap}

-- `same` as the second factor picks the term at k
pub picked : (g : ℕ → ℕ) (n k : ℕ) → k < n → sum (λ i. g i * same i k) n ≡ g k
picked g n k l = sum_cong (λ i. g i * same i k) (λ i. same i k * g i) n (λ i h. mul_comm (g i) (same i k)) ∙ sum_at g n k l

-- the words table by table, and one after another
pub words_sum : (a g : ℕ → ℕ) (n : ℕ) → sum (λ t. a t * sum (λ i. g (512 * t + i)) 512) n ≡ sum (λ w. a (w / 512) * g w) (n * 512)
words_sum a g n = sum_cong (λ t. a t * sum (λ i. g (512 * t + i)) 512) (λ t. sum (λ i. a ((t * 512 + i) / 512) * g (t * 512 + i)) 512) n row ∙ sym (sum_blocks (λ w. a (w / 512) * g w) n 512)
  where
    at : (t i : ℕ) → i < 512 → a t * g (512 * t + i) ≡ a ((t * 512 + i) / 512) * g (t * 512 + i)
    at t i l =
        let p : (t * 512 + i) / 512 ≡ t = omega arith in
        let q : 512 * t + i ≡ t * 512 + i = omega arith in
        rw (p, q)

    row : (t : ℕ) → t < n → a t * sum (λ i. g (512 * t + i)) 512 ≡ sum (λ i. a ((t * 512 + i) / 512) * g (t * 512 + i)) 512
    row t l = sym (sum_scale (a t) (λ i. g (512 * t + i)) 512) ∙ sum_cong (λ i. a t * g (512 * t + i)) (λ i. a ((t * 512 + i) / 512) * g (t * 512 + i)) 512 (at t)

-- the marks that name word w: one, or none of weight
module _ (k h : ℕ → ℕ) (n w : ℕ) where
  pub marks_one : (t : ℕ) → t < n → k t ≡ w + 2 → ((u : ℕ) → u < n → k u ≡ w + 2 → u ≡ t) → sum (λ u. same (k u) (w + 2) * h u) n ≡ h t
  marks_one t l e only = sum_only (λ u. same (k u) (w + 2) * h u) n t l (λ u m ne. same_none (k u) (w + 2) (h u) (λ f. ne (only u m f))) ∙ same_times (k t) (w + 2) (h t) e

  pub marks_none : ((u : ℕ) → u < n → k u ≡ w + 2 → h u ≡ 0) → sum (λ u. same (k u) (w + 2) * h u) n ≡ 0
  marks_none none = sum_zero (λ u. same (k u) (w + 2) * h u) n (λ u l. go u l (ℕ_discrete (k u) (w + 2)))
    where
      go : (u : ℕ) → u < n → Dec (k u ≡ w + 2) → same (k u) (w + 2) * h u ≡ 0
      go u l (yes e) = same_times (k u) (w + 2) (h u) e ∙ none u l e
      go u l (no ne) = same_none (k u) (w + 2) (h u) ne

-- what the words of m tables count is what the n marks that name them count
pub counted : (a g k h : ℕ → ℕ) (m n : ℕ) → ((t : ℕ) → t < n → 0 < h t → (2 ≤ k t) × (k t < m * 512 + 2))
    → ((w : ℕ) → w < m * 512 → a (w / 512) * g w ≡ sum (λ t. same (k t) (w + 2) * h t) n)
    → sum (λ t. a t * sum (λ i. g (512 * t + i)) 512) m ≡ sum h n
counted a g k h m n b e = words_sum a g m ∙ sum_cong (λ w. a (w / 512) * g w) (λ w. sum (λ t. same (k t) (w + 2) * h t) n) (m * 512) e ∙ marks_swap k h n (m * 512) b
