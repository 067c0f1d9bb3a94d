-- A root lists at most 512 lines for each table of the store. Assumes nothing.
use mathlib.Core.Path.{◌≡◌, refl, ◌∙◌, ap}
use mathlib.Core.List.{List, []}
use Prim.Native.Nat.{ℕ, zero, suc, ◌+◌, ◌*◌, ◌≤◌, ◌<◌}
use native.Mathlib.Omega.{arith}
use lib.ListN.{length, length-append}
use Rattle.store.specs.Store.{Store, Sized, word, mark}
use Rattle.store.specs.WellFormed.{WellFormed}
use Rattle.store.specs.Walk.{table_of}
use Rattle.store.specs.Sum.{sum, same}
use Rattle.store.specs.Reached.{child, tables_below}
use Rattle.store.proofs.Scans.{in_range}
use Rattle.store.proofs.Sums.{sum_le, sum_zero, sum_add, sum_scale, at_most, same_times}
use Rattle.store.proofs.Reached.{tables_add_up}
use Rattle.dump.specs.Dump.{Row, upward, entry, table, root_rows}
use Rattle.dump.proofs.Listings.{entry_full}

-- the rows are as many as their parts have together
upward_sum : (f : ℕ → List Row) (n : ℕ) → length (upward f n) ≡ sum (λ i. length (f i)) n
unfolding upward sum
upward_sum f zero = refl
upward_sum f (suc n) = length-append (upward f n) (f n) ∙ ap (λ (k : ℕ). k + length (f n)) (upward_sum f n)

ones : (n : ℕ) → sum (λ i. 1) n ≡ n
unfolding sum
ones zero = refl
ones (suc n) = omega (arith, ones n)

-- n parts of which each has one row and 512 for each table below it
parts : (f : ℕ → List Row) (g : ℕ → ℕ) (n : ℕ) → ((i : ℕ) → i < n → length (f i) ≤ 1 + 512 * g i) → length (upward f n) ≤ n + 512 * sum g n
parts f g n h =
    omega (
      arith,
      upward_sum f n,
      sum_le (λ i. length (f i)) (λ i. 1 + 512 * g i) n h,
      sum_add (λ i. 1) (λ i. 512 * g i) n,
      ones n,
      sum_scale 512 g n,
    )

entry_few : (l i e k : ℕ) (rows : List Row) → length rows ≤ 512 * k → length (entry l i e rows) ≤ 1 + 512 * k
unfolding entry
entry_few l i zero k rows h = omega arith
entry_few l i (suc x) k rows h = omega (arith, ap length (entry_full l i (suc x) rows (λ q. omega arith)))

-- an entry and the table below it
entry_child : (l i e : ℕ) (f : ℕ → ℕ) (rows : List Row) → length rows ≤ 512 * f (table_of e) → length (entry l i e rows) ≤ 1 + 512 * child f e
unfolding entry child
entry_child l i zero f rows h = omega arith
entry_child l i (suc x) f rows h = omega (arith, ap length (entry_full l i (suc x) rows (λ q. omega arith)))

few : (ws : List ℕ) (l t : ℕ) → length (table ws l t) ≤ 512 * tables_below ws l t
unfolding table tables_below
few ws zero t =
    let p = parts (λ (i : ℕ). entry 0 i (word ws (512 * t + i)) []) (λ (i : ℕ). 0) 512 (λ i h. entry_few 0 i (word ws (512 * t + i)) 0 [] (omega arith)) in
    omega (arith, p, sum_zero (λ (i : ℕ). 0) 512 (λ i h. refl))
few ws (suc l) t =
    let p = parts (λ (i : ℕ). entry (suc l) i (word ws (512 * t + i)) (table ws l (table_of (word ws (512 * t + i)))))
    (λ (i : ℕ). child (tables_below ws l) (word ws (512 * t + i))) 512
    (λ i h. entry_child (suc l) i (word ws (512 * t + i)) (tables_below ws l) (table ws l (table_of (word ws (512 * t + i)))) (few ws l (table_of (word ws (512 * t + i))))) in
    omega (arith, p)

pub root_few : (s : Store) (root : ℕ) → Sized s → WellFormed s → mark s.tmarks root ≡ 1 → length (root_rows s root) ≤ 512 * length s.tmarks
root_few s root z w e =
    omega (
      arith,
      few s.words 2 root,
      at_most (λ t. same (mark s.tmarks t) 1 * tables_below s.words 2 t) (length s.tmarks) root (in_range s.tmarks root (λ q. omega arith)),
      same_times (mark s.tmarks root) 1 (tables_below s.words 2 root) e,
      tables_add_up s z w,
    )
