-- How many values of a function are 0, over parts from a up to, not including, e. Assumes nothing.
use mathlib.Core.Path.{◌≡◌, sym, ap, ◌∙◌}
use mathlib.Core.List.{List}
use Prim.Native.Nat.{ℕ, zero, suc, ◌+◌, ◌-◌, ◌≤◌}
use native.Mathlib.Omega.{arith}
use native.Mathlib.Nat.{zero-add, add-zero, suc-add, add-suc}
use lib.ListN.{length}
use Rattle.store.specs.Store.{mark}
use Rattle.store.specs.Count.{is_zero, zeros, free}
use Rattle.store.proofs.Free.{is_zero_pos}

-- the first m, and the n after them
pub zeros_split : (g : ℕ → ℕ) (m n c : ℕ) → zeros g (m + n) c ≡ zeros g m c + zeros g n (c + m)
unfolding zeros
zeros_split g zero n c = rw (zero-add n, add-zero c) (omega arith)
zeros_split g (suc m) n c = rw suc-add (omega (arith, zeros_split g m n (suc c), ap (zeros g n) (suc-add c m ∙ sym (add-suc c m))))

-- two parts joined
pub part_join : (g : ℕ → ℕ) (a b e : ℕ) → a ≤ b → b ≤ e → zeros g (b - a) a + zeros g (e - b) b ≡ zeros g (e - a) a
part_join g a b e l h =
    let s : b - a + (e - b) ≡ e - a = omega arith in
    let t : a + (b - a) ≡ b = omega arith in
    omega (arith, zeros_split g (b - a) (e - b) a, ap (λ (n : ℕ). zeros g n a) s, ap (zeros g (e - b)) t)

pub part_none : (g : ℕ → ℕ) (a : ℕ) → zeros g (a - a) a ≡ 0
unfolding zeros
part_none g a = let e : a - a ≡ 0 = omega arith in rw e

-- one number more: a 0 is counted, another number is not
pub part_next : (g : ℕ → ℕ) (a i : ℕ) → a ≤ i → zeros g (i - a) a + is_zero (g i) ≡ zeros g (i + 1 - a) a
unfolding zeros
part_next g a i l = let e : i + 1 - i ≡ 1 = omega arith in omega (arith, part_join g a i (i + 1) l (omega arith), ap (λ (n : ℕ). zeros g n i) e)

pub part_more : (g : ℕ → ℕ) (a i n : ℕ) → a ≤ i → n ≡ zeros g (i - a) a → g i ≡ 0 → n + 1 ≡ zeros g (i + 1 - a) a
part_more g a i n l e z = omega (arith, part_next g a i l, ap is_zero z)

pub part_pass : (g : ℕ → ℕ) (a i n : ℕ) → a ≤ i → n ≡ zeros g (i - a) a → (g i ≡ 0 → ⊥) → n ≡ zeros g (i + 1 - a) a
part_pass g a i n l e z = omega (arith, part_next g a i l, is_zero_pos (g i) z)

-- all marks as one part
pub free_part : (ms : List ℕ) → zeros (mark ms) (length ms - 0) 0 ≡ free ms
unfolding free
free_part ms = let e : length ms - 0 ≡ length ms = omega arith in ap (λ (n : ℕ). zeros (mark ms) n 0) e
