-- Claims and counts over a part, from a up to e: one more, joined, moved, and the whole of them. Assumes nothing.
use mathlib.Core.Path.{◌≡◌, refl, sym, subst}
use mathlib.Core.Logic.{by_cases}
use Prim.Native.Nat.{ℕ, zero, suc, ◌+◌, ◌-◌, ◌≤◌, ◌<◌, zero-le}
use native.Mathlib.Decide.{dec_le, dec_lt}
use native.Mathlib.Numerals.{add-one}
use native.Mathlib.Omega.{arith}
use Rattle.store.specs.Sum.{sum}
use Rattle.store.proofs.Sums.{sum_cong, sum_split, sum_zero}
use Rattle.well_formed.specs.Scan.{Each, Over}

module _ (P : ℕ → Type 0) where
  pub each_part : (a b c e : ℕ) → a ≤ b → c ≤ e → Each P a e → Each P b c
  each_part a b c e p q all k h l = all k (omega arith) (omega arith)

  pub each_join : (a b e : ℕ) → Each P a b → Each P b e → Each P a e
  each_join a b e p q k h l = by_cases (dec_lt k b) (λ s. p k h s) (λ s. q k (omega arith) l)

  pub each_more : (a i : ℕ) → Each P a i → P i → Each P a (i + 1)
  each_more a i all here = each_join a i (i + 1) all (λ k h l. subst P (omega arith) here)

module _ (g : ℕ → ℕ) where
  pub over_none : (a : ℕ) → Over g a a 0
  over_none a = record { adds = omega arith; few = omega arith }

  pub over_join : (a b e m n : ℕ) → a ≤ b → b ≤ e → Over g a b m → Over g b e n → Over g a e (m + n)
  over_join a b e m n p q x y = record { adds = omega (arith, x.adds, y.adds); few = omega (arith, x.few, y.few) }

  -- one word more, counted and not counted
  pub over_one : (a i n : ℕ) → a ≤ i → g i ≡ 1 → Over g a i n → Over g a (i + 1) (n + 1)
  unfolding sum
  over_one a i n l e x = record { adds = rw (add-one i) (omega (arith, x.adds)); few = omega (arith, x.few) }

  pub over_skip : (a i n : ℕ) → a ≤ i → g i ≡ 0 → Over g a i n → Over g a (i + 1) n
  unfolding sum
  over_skip a i n l e x = record { adds = rw (add-one i) (omega (arith, x.adds)); few = omega (arith, x.few) }

  pub over_done : (a i e n : ℕ) → i ≤ e → e ≤ i → Over g a i n → Over g a e n
  over_done a i e n p q x = let z : i ≡ e = omega arith in subst (λ (k : ℕ). Over g a k n) z x

-- a claim and a count of all before b, carried on over the part from b to d
pub part_more : (P : ℕ → Type 0) (g : ℕ → ℕ) (b d e n m : ℕ) → b ≤ d → d ≡ e → Each P 0 b × Over g 0 b n → Each P b d × Over g b d m → Each P 0 e × Over g 0 e (n + m)
part_more P g b d e n m l z p q = subst (λ (k : ℕ). Each P 0 k × Over g 0 k (n + m)) z (each_join P 0 b d p.0 q.0, over_join g 0 b d n m zero-le l p.1 q.1)

-- a claim on the first n numbers, and a count of them, are moved to the n numbers from a on
module _ (P Q : ℕ → Type 0) (a n : ℕ) where
  pub each_to : ((k : ℕ) → k < n → P k → Q (a + k)) → Each P 0 n → Each Q a (a + n)
  each_to to all k h l = let e : a + (k - a) ≡ k = omega arith in subst Q e (to (k - a) (omega arith) (all (k - a) (omega arith) (omega arith)))

  pub each_back : ((k : ℕ) → k < n → Q (a + k) → P k) → Each Q a (a + n) → Each P 0 n
  each_back back all k h l = back k l (all (a + k) (omega arith) (omega arith))

pub over_to : (g h : ℕ → ℕ) (a n m : ℕ) → ((k : ℕ) → k < n → g k ≡ h (a + k)) → Over g 0 n m → Over h a (a + n) m
unfolding sum
over_to g h a n m agree x = record { adds = omega (arith, x.adds, sum_cong g (λ k. h (a + k)) n agree, sum_split h a n); few = omega (arith, x.few) }

-- the part counts the same for functions that agree on it
module _ (g h : ℕ → ℕ) (a : ℕ) where
  sums : (e : ℕ) → a ≤ e → ((k : ℕ) → a ≤ k → k < e → g k ≡ h k) → sum g e + sum h a ≡ sum h e + sum g a
  unfolding sum
  sums zero l same = let z : a ≡ 0 = omega arith in rw z refl
  sums (suc e) l same =
      by_cases (dec_le a e) (λ q. omega (arith, sums e q (λ k p m. same k p (omega arith)), same e q (omega arith)))
      (λ n. let z : a ≡ suc e = omega arith in rw z (omega arith))

  pub over_same : (e n : ℕ) → a ≤ e → ((k : ℕ) → a ≤ k → k < e → g k ≡ h k) → Over g a e n → Over h a e n
  over_same e n l same x = record { adds = omega (arith, x.adds, sums e l same); few = x.few }

-- where nothing is counted
pub over_zero : (g : ℕ → ℕ) (a e : ℕ) → a ≤ e → ((k : ℕ) → a ≤ k → k < e → g k ≡ 0) → Over g a e 0
over_zero g a e l none = over_same (λ k. 0) g a e 0 l (λ k p q. sym (none k p q)) (record { adds = omega (arith, sum_zero (λ k. 0) a (λ i m. refl), sum_zero (λ k. 0) e (λ i m. refl)); few = omega arith })
