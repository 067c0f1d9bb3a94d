-- The marks that are free and those that are taken, as sums. Assumes nothing.
use mathlib.Core.Path.{◌≡◌, refl, sym, ap, ◌∙◌}
use mathlib.Core.List.{List}
use Prim.Native.Nat.{ℕ, zero, suc, ◌+◌, ◌*◌, ◌<◌}
use native.Mathlib.Nat.{zero-add, zero-mul, one-mul}
use native.Mathlib.Omega.{arith}
use lib.ListN.{length}
use Rattle.store.specs.Sum.{sum}
use Rattle.store.specs.Store.{mark}
use Rattle.store.specs.Count.{is_zero, zeros, free}
use Rattle.store.proofs.Sums.{sum_cong, sum_add}
use Rattle.store.proofs.Free.{zeros_next}

-- n ones
sum_ones : (n : ℕ) → sum (λ i. 1) n ≡ n
unfolding sum
sum_ones zero = refl
sum_ones (suc n) = omega (arith, sum_ones n)

zeros_sum : (g : ℕ → ℕ) (n : ℕ) → zeros g n 0 ≡ sum (λ i. is_zero (g i)) n
unfolding sum zeros
zeros_sum g zero = refl
zeros_sum g (suc n) = zeros_next g n 0 ∙ omega (arith, zeros_sum g n, ap (λ (x : ℕ). is_zero (g x)) (zero-add n))

-- the free marks, counted by a sum
pub free_sum : (ms : List ℕ) → free ms ≡ sum (λ i. is_zero (mark ms i)) (length ms)
unfolding free
free_sum ms = zeros_sum (mark ms) (length ms)

-- 1 where a mark is not 0, else 0
unfoldable pub taken : ℕ → ℕ
taken zero = 0
taken (suc m) = 1

pub free_or_taken : (m : ℕ) → is_zero m + taken m ≡ 1
unfolding taken
free_or_taken zero = refl
free_or_taken (suc m) = refl

-- the marks that are free and those that are not
pub free_taken : (ms : List ℕ) → free ms + sum (λ i. taken (mark ms i)) (length ms) ≡ length ms
free_taken ms =
    ap (λ (x : ℕ). x + sum (λ i. taken (mark ms i)) (length ms)) (free_sum ms)
    ∙ sym (sum_add (λ i. is_zero (mark ms i)) (λ i. taken (mark ms i)) (length ms))
    ∙ sum_cong (λ i. is_zero (mark ms i) + taken (mark ms i)) (λ i. 1) (length ms) (λ i l. free_or_taken (mark ms i))
    ∙ sum_ones (length ms)

-- a factor `taken` keeps the other factor, or the mark is 0
pub taken_times : (m c : ℕ) → (m ≡ 0 → ⊥) → taken m * c ≡ c
unfolding taken
taken_times zero c h = absurd (h refl)
taken_times (suc m) c h = one-mul c

pub taken_factor : (m c : ℕ) → 0 < taken m * c → m ≡ 0 → ⊥
unfolding taken
taken_factor zero c h e = omega (arith, zero-mul c)
taken_factor (suc m) c h e = omega arith

pub taken_some : (m : ℕ) → (m ≡ 0 → ⊥) → taken m ≡ 1
unfolding taken
taken_some zero h = absurd (h refl)
taken_some (suc m) h = refl

pub taken_pos : (m : ℕ) → 0 < taken m → m ≡ 0 → ⊥
unfolding taken
taken_pos zero h e = omega arith
taken_pos (suc m) h e = omega arith
