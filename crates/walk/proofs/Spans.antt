-- How many values of a function are 0, over a span: ends, joints, and a function that changes at one place. Assumes nothing.
use mathlib.Core.Path.{◌≡◌, refl, sym, ap, ap₂, ◌∙◌}
use Prim.Native.Nat.{ℕ, zero, suc, ◌+◌, ◌-◌, ◌≤◌, ◌<◌}
use native.Mathlib.Omega.{arith}
use native.Mathlib.Nat.{add-zero, suc-add, add-suc}
use native.Mathlib.Decide.{ℕ_discrete, dec_le}
use Rattle.store.specs.Count.{is_zero, zeros}
use Rattle.store.proofs.Free.{is_zero_pos, is_zero_le, zeros_le}
use Rattle.walk.specs.Missing.{span}

-- g' is g with v put at i
pub record Upd (g g' : ℕ → ℕ) (i v : ℕ) : Type 0 where
  pub same : g' i ≡ v
  pub other : (j : ℕ) → (j ≡ i → ⊥) → g' j ≡ g j

-- ---- zeros

is_zero_one : (n : ℕ) → is_zero n ≡ 1 → n ≡ 0
is_zero_one zero e = refl
is_zero_one (suc n) e = absurd (omega arith)

-- functions that agree have equal counts
pub zeros_same : (g g' : ℕ → ℕ) (n c : ℕ) → ((j : ℕ) → c ≤ j → j < c + n → g' j ≡ g j) → zeros g' n c ≡ zeros g n c
unfolding zeros
zeros_same g g' zero c h = refl
zeros_same g g' (suc n) c h =
    ap₂ (λ (x y : ℕ). is_zero x + y) (h c (omega arith) (omega arith)) (zeros_same g g' n (suc c) (λ j l u. h j (omega arith) (omega arith)))

-- a 0 that becomes another number is one zero less
pub zeros_upd : (g g' : ℕ → ℕ) (i v n c : ℕ) → Upd g g' i v → g i ≡ 0 → 0 < v → c ≤ i → i < c + n → zeros g n c ≡ suc (zeros g' n c)
unfolding zeros
zeros_upd g g' i v zero c u z p l h = absurd (omega arith)
zeros_upd g g' i v (suc n) c u z p l h = go (ℕ_discrete c i) (zeros_upd g g' i v n (suc c) u z p)
  where
    go : Dec (c ≡ i) → (suc c ≤ i → i < suc c + n → zeros g n (suc c) ≡ suc (zeros g' n (suc c)))
        → is_zero (g c) + zeros g n (suc c) ≡ suc (is_zero (g' c) + zeros g' n (suc c))
    go (yes e) ih =
        let same = zeros_same g g' n (suc c) (λ j q r. u.other j (λ x. omega arith)) in
        omega (arith, same, ap (λ (x : ℕ). is_zero (g x)) e, ap is_zero z, is_zero_pos (g' c) (λ x. omega (arith, u.same, ap g' e)))
    go (no ne) ih = omega (arith, ap is_zero (u.other c ne), ih (omega arith) (omega arith))

-- all are 0 exactly where as many are counted as there are
pub zeros_all : (g : ℕ → ℕ) (n c : ℕ) → ((i : ℕ) → i < n → g (c + i) ≡ 0) → zeros g n c ≡ n
unfolding zeros
zeros_all g zero c h = refl
zeros_all g (suc n) c h =
    omega (
      arith,
      ap is_zero (ap g (sym (add-zero c)) ∙ h 0 (omega arith)),
      zeros_all g n (suc c) (λ i l. ap g (suc-add c i ∙ sym (add-suc c i)) ∙ h (suc i) (omega arith)),
    )

pub all_zeros : (g : ℕ → ℕ) (n c : ℕ) → zeros g n c ≡ n → (i : ℕ) → i < n → g (c + i) ≡ 0
unfolding zeros
all_zeros g zero c e i l = absurd (omega arith)
all_zeros g (suc n) c e zero l = ap g (add-zero c) ∙ is_zero_one (g c) (omega (arith, is_zero_le (g c), zeros_le g n (suc c)))
all_zeros g (suc n) c e (suc i) l =
    ap g (add-suc c i ∙ sym (suc-add c i)) ∙ all_zeros g n (suc c) (omega (arith, is_zero_le (g c), zeros_le g n (suc c))) i (omega arith)

-- ---- spans, from b to c

pub span_first : (g : ℕ → ℕ) (b c : ℕ) → b ≤ c → span g b c ≡ is_zero (g b) + zeros g (c - b) (suc b)
unfolding span zeros
span_first g b c h = let e : suc c - b ≡ suc (c - b) = omega arith in ap (λ (n : ℕ). zeros g n b) e

pub span_has : (g : ℕ → ℕ) (b c : ℕ) → b ≤ c → is_zero (g b) ≤ span g b c
span_has g b c h = omega (arith, span_first g b c h)

pub span_one : (g : ℕ → ℕ) (b : ℕ) → span g b b ≡ is_zero (g b)
unfolding zeros
span_one g b = let e : b - b ≡ 0 = omega arith in span_first g b b (omega arith) ∙ (rw e (omega arith))

pub span_le : (g : ℕ → ℕ) (b c : ℕ) → span g b c ≤ suc c - b
unfolding span
span_le g b c = zeros_le g (suc c - b) b

-- a span that loses its first number, where the functions agree past it
pub span_step : (g g' : ℕ → ℕ) (b b' c : ℕ) → b ≤ b' → b' ≤ suc b → b' ≤ c → 0 < g' b → ((j : ℕ) → b < j → j ≤ c → g' j ≡ g j)
    → span g b c ≡ is_zero (g b) + span g' b' c
unfolding span
span_step g g' b b' c l u h p same = go (dec_le b' b)
  where
    rest : zeros g' (c - b) (suc b) ≡ zeros g (c - b) (suc b)
    rest = zeros_same g g' (c - b) (suc b) (λ j q r. same j q (omega arith))

    go : Dec (b' ≤ b) → span g b c ≡ is_zero (g b) + span g' b' c
    go (yes q) =
        let e : b' ≡ b = omega arith in
        omega (arith, span_first g b c (omega arith), ap (λ (x : ℕ). span g' x c) e, span_first g' b c (omega arith), is_zero_pos (g' b) (λ x. omega arith), rest)
    go (no q) =
        let e : b' ≡ suc b = omega arith in
        let e' : suc c - suc b ≡ c - b = omega arith in
        omega (arith, span_first g b c (omega arith), ap (λ (x : ℕ). span g' x c) e, ap (λ (n : ℕ). zeros g' n (suc b)) e', rest)

-- a span of zeros only
pub span_all : (g : ℕ → ℕ) (b c : ℕ) → ((i : ℕ) → b ≤ i → i ≤ c → g i ≡ 0) → span g b c ≡ suc c - b
unfolding span
span_all g b c h = zeros_all g (suc c - b) b (λ i l. h (b + i) (omega arith) (omega arith))
