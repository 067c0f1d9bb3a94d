-- The lowest free mark, and how many are free. Assumes nothing.
use mathlib.Core.Path.{◌≡◌, refl, sym, ap, ◌∙◌}
use mathlib.Core.List.{List, [], ◌∷◌, ◌++◌}
use Prim.Native.Nat.{ℕ, zero, suc, ◌+◌, ◌-◌, ◌≤◌, ◌<◌}
use native.Mathlib.Nat.{add-zero, suc-add, add-suc}
use native.Mathlib.Decide.{dec_lt}
use native.Mathlib.Omega.{arith}
use lib.ListN.{length, get_or, take, drop, length-drop}
use lib.Seq.{take_all}
use borrow.Author.Tests.{ne_eqb}
use Rattle.std.proofs.Common.{cond, eqb, ltb, false, Some, None}
use Rattle.std.proofs.lemmas.Bool.{lt-ltb, le-ltb}
use Rattle.std.specs.List.{count_by, position, position_or_len}
use Rattle.std.specs.Option.{unwrap_or}
use Rattle.std.proofs.lemmas.List.Recursion.{is_count_by, is_position_or_len}
use Rattle.std.proofs.lemmas.List.Sums.{sum_by-append}
use Rattle.store.specs.Store.{mark}
use Rattle.store.specs.Count.{lowest, is_zero, zeros, free}

pub is_zero_pos : (n : ℕ) → (n ≡ 0 → ⊥) → is_zero n ≡ 0
is_zero_pos zero h = absurd (h refl)
is_zero_pos (suc n) h = refl

pub is_zero_le : (m : ℕ) → is_zero m ≤ 1
is_zero_le zero = omega arith
is_zero_le (suc m) = omega arith

-- a search that has come to i finds it there, or goes on
pub lowest_here : (ms : List ℕ) (i : ℕ) → i ≤ lowest ms → i < length ms → get_or ms i 0 ≡ 0 → i ≡ lowest ms
lowest_here [] i h l e = absurd (omega arith)
lowest_here (zero ∷ ms) i h l e = omega arith
lowest_here (suc x ∷ ms) zero h l e = absurd (omega arith)
lowest_here (suc x ∷ ms) (suc i) h l e = ap suc (lowest_here ms i (omega arith) (omega arith) e)

pub lowest_next : (ms : List ℕ) (i : ℕ) → i ≤ lowest ms → i < length ms → (get_or ms i 0 ≡ 0 → ⊥) → suc i ≤ lowest ms
lowest_next [] i h l n = absurd (omega arith)
lowest_next (zero ∷ ms) zero h l n = absurd (n refl)
lowest_next (zero ∷ ms) (suc i) h l n = absurd (omega arith)
lowest_next (suc x ∷ ms) zero h l n = omega arith
lowest_next (suc x ∷ ms) (suc i) h l n = omega (arith, lowest_next ms i (omega arith) (omega arith) n)

-- one number more
pub zeros_next : (g : ℕ → ℕ) (n c : ℕ) → zeros g (suc n) c ≡ zeros g n c + is_zero (g (c + n))
unfolding zeros
zeros_next g zero c = ap (λ (x : ℕ). is_zero (g x) + 0) (sym (add-zero c)) ∙ omega arith
zeros_next g (suc n) c =
    ap (λ (x : ℕ). is_zero (g c) + x) (zeros_next g n (suc c)) ∙ omega (arith, ap (λ (x : ℕ). is_zero (g x)) (suc-add c n ∙ sym (add-suc c n)))

pub zeros_le : (g : ℕ → ℕ) (n c : ℕ) → zeros g n c ≤ n
unfolding zeros
zeros_le g zero c = omega arith
zeros_le g (suc n) c = omega (arith, zeros_le g n (suc c), is_zero_le (g c))

-- no more are free than there are
pub free_le : (ms : List ℕ) → free ms ≤ length ms
unfolding free
free_le ms = zeros_le (mark ms) (length ms) 0

-- the lowest free mark is one of the marks, or their number
pub lowest_le : (ms : List ℕ) → lowest ms ≤ length ms
lowest_le [] = omega arith
lowest_le (zero ∷ l) = omega arith
lowest_le (suc x ∷ l) = omega (arith, lowest_le l)

-- the marks behind the first one
zeros_behind : (x : ℕ) (ms : List ℕ) (n c : ℕ) → zeros (mark (x ∷ ms)) n (suc c) ≡ zeros (mark ms) n c
unfolding zeros
zeros_behind x ms zero c = refl
zeros_behind x ms (suc n) c = ap (λ (k : ℕ). is_zero (mark ms c) + k) (zeros_behind x ms n (suc c))

not_zero : (x : ℕ) → eqb (suc x) 0 ≡ false
not_zero x = ne_eqb (suc x) 0 (λ e. omega arith)

free_cons : (x : ℕ) (ms : List ℕ) → free (x ∷ ms) ≡ cond (eqb x 0) (1 + free ms) (free ms)
unfolding free zeros
free_cons zero ms = ap (λ (k : ℕ). 1 + k) (zeros_behind zero ms (length ms) 0)
free_cons (suc x) ms = rw (not_zero x) (omega (arith, zeros_behind (suc x) ms (length ms) 0))

free_none : free [] ≡ 0
unfolding free zeros
free_none = refl

-- the count and the lowest in the library's words
pub free_counts : (ms : List ℕ) → free ms ≡ count_by (λ m. eqb m 0) ms
free_counts = is_count_by free (λ m. eqb m 0) free_none free_cons

pub lowest_position : (ms : List ℕ) → lowest ms ≡ position_or_len (λ m. eqb m 0) ms
lowest_position = is_position_or_len lowest (λ m. eqb m 0) refl next
  where
    next : (x : ℕ) (ms : List ℕ) → lowest (x ∷ ms) ≡ cond (eqb x 0) 0 (1 + lowest ms)
    next zero ms = refl
    next (suc x) ms = rw (not_zero x) (omega arith)

pub lowest_found : (ms : List ℕ) → unwrap_or (position (λ m. eqb m 0) ms) (length ms) ≡ lowest ms
lowest_found ms = rw (sym (lowest_position ms)) (go (dec_lt (lowest ms) (length ms)))
  where
    go : Dec (lowest ms < length ms) → unwrap_or (cond (ltb (lowest ms) (length ms)) (Some (lowest ms)) None) (length ms) ≡ lowest ms
    go (yes p) = rw (lt-ltb _ _ p)
    go (no np) = let l : length ms ≤ lowest ms = omega arith in rw (le-ltb _ _ l) (omega (arith, lowest_le ms))

-- two parts joined
pub free_append : (xs ys : List ℕ) → free (xs ++ ys) ≡ free xs + free ys
free_append xs ys = rw (free_counts xs, free_counts ys, free_counts (xs ++ ys)) (sum_by-append (λ m. cond (eqb m 0) 1 0) xs ys)

behind : (ms : List ℕ) (i : ℕ) → i ≤ lowest ms → i + lowest (drop i ms) ≡ lowest ms
behind ms zero h = omega arith
behind [] (suc i) h = absurd (omega arith)
behind (zero ∷ ms) (suc i) h = absurd (omega arith)
behind (suc x ∷ ms) (suc i) h = omega (arith, behind ms i (omega arith))

-- a search that begins at i, below which there is none
pub lowest_behind : (ms : List ℕ) (i : ℕ) → i ≤ lowest ms → i + lowest (take (length ms - i) (drop i ms)) ≡ lowest ms
lowest_behind ms i h = omega (arith, behind ms i h, ap lowest (take_all (length ms - i) (drop i ms) (simp length-drop (omega arith))))
