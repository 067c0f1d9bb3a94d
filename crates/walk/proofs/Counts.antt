-- What a count of pages by bits says of them: one has the bits, none has, all have, one has not. Assumes nothing.
use mathlib.Core.Path.{◌≡◌, sym, ap, subst}
use mathlib.Core.Logic.{◌⊎◌, inl, inr, ⊎_elim, by_cases}
use Prim.Native.Nat.{ℕ, zero, suc, ◌+◌, ◌-◌, ◌≤◌, ◌<◌}
use native.Mathlib.Decide.{ℕ_discrete, dec_le}
use native.Mathlib.Omega.{arith}
use lib.Bits.{bit_and}
use Rattle.store.specs.Sum.{sum}
use Rattle.store.proofs.Sums.{same_yes, same_no}
use Rattle.well_formed.specs.Scan.{Over}
use Rattle.walk.specs.Ranges.{alike}

module _ (g : ℕ → ℕ) (mask v a : ℕ) where
  abbrev Has : ℕ → Type 0
  Has k = bit_and (g k) mask ≡ v

  abbrev upto : ℕ → ℕ
  upto e = sum (alike mask v g) e

  -- one that has the bits counts 1, and one that has not counts 0
  one : (k : ℕ) → (Has k × (alike mask v g k ≡ 1)) ⊎ ((Has k → ⊥) × (alike mask v g k ≡ 0))
  one k = go (ℕ_discrete (bit_and (g k) mask) v)
    where
      go : Dec (Has k) → (Has k × (alike mask v g k ≡ 1)) ⊎ ((Has k → ⊥) × (alike mask v g k ≡ 0))
      go (yes h) = inl (h, same_yes (bit_and (g k) mask) v h)
      go (no n) = inr (n, same_no (bit_and (g k) mask) v n)

  -- a part counts no less than 0 and no more than its length
  bounds : (e : ℕ) → a ≤ e → (upto a ≤ upto e) × (upto e ≤ upto a + (e - a))
  unfolding sum
  bounds zero l = let z : a ≡ 0 = omega arith in rw z (omega arith, omega arith)
  bounds (suc e) l =
      by_cases (dec_le a e)
      (λ q. let b = bounds e q in ⊎_elim (λ h. (omega (arith, b, h.1), omega (arith, b, h.1))) (λ h. (omega (arith, b, h.1), omega (arith, b, h.1))) (one e))
      (λ q. let z : a ≡ suc e = omega arith in rw z (omega arith, omega arith))

  module _ {P : ℕ → Type 0} where
    -- what is found in a shorter part is found in the longer one
    later : {e : ℕ} → (k : ℕ) × (a ≤ k) × (k < e) × P k → (k : ℕ) × (a ≤ k) × (k < suc e) × P k
    later (k, l, h, p) = (k, l, omega arith, p)

  some : (e n : ℕ) → a ≤ e → upto a + n ≡ upto e → 0 < n → (k : ℕ) × (a ≤ k) × (k < e) × Has k
  unfolding sum
  some zero n l c h = let z : a ≡ 0 = omega arith in absurd (omega (arith, ap upto z))
  some (suc e) n l c h =
      by_cases (dec_le a e)
      (λ q. ⊎_elim (λ y. (e, q, omega arith, y.0)) (λ y. later (some e n q (omega (arith, y.1)) h)) (one e))
      (λ q. let z : a ≡ suc e = omega arith in absurd (omega (arith, ap upto z)))

  lack : (e n : ℕ) → a ≤ e → upto a + n ≡ upto e → n < e - a → (k : ℕ) × (a ≤ k) × (k < e) × (Has k → ⊥)
  unfolding sum
  lack zero n l c h = absurd (omega arith)
  lack (suc e) n l c h =
      by_cases (dec_le a e)
      (λ q. ⊎_elim (λ y. later (lack e (n - 1) q (omega (arith, y.1, bounds e q)) (omega (arith, y.1, bounds e q)))) (λ y. (e, q, omega arith, y.0)) (one e))
      (λ q. absurd (omega arith))

  none : (e : ℕ) → a ≤ e → upto a ≡ upto e → (k : ℕ) → a ≤ k → k < e → Has k → ⊥
  unfolding sum
  none zero l c k p q y = omega arith
  none (suc e) l c k p q y =
      let b = bounds e (omega arith) in
      ⊎_elim (λ h. omega (arith, h.1, b))
      (λ h. by_cases (ℕ_discrete k e) (λ s. h.0 (subst Has s y)) (λ s. none e (omega arith) (omega (arith, h.1)) k p (omega arith) y)) (one e)

  all : (e : ℕ) → a ≤ e → upto a + (e - a) ≡ upto e → (k : ℕ) → a ≤ k → k < e → Has k
  unfolding sum
  all zero l c k p q = absurd (omega arith)
  all (suc e) l c k p q =
      let b = bounds e (omega arith) in
      ⊎_elim (λ h. by_cases (ℕ_discrete k e) (λ s. subst Has (sym s) h.0) (λ s. all e (omega arith) (omega (arith, h.1)) k p (omega arith)))
      (λ h. absurd (omega (arith, h.1, b))) (one e)

  -- the same of a count
  module _ (e n : ℕ) (l : a ≤ e) (c : Over (alike mask v g) a e n) where
    pub one_has : 0 < n → (k : ℕ) × (a ≤ k) × (k < e) × Has k
    one_has = some e n l c.adds

    pub one_lacks : n < e - a → (k : ℕ) × (a ≤ k) × (k < e) × (Has k → ⊥)
    one_lacks = lack e n l c.adds

    pub none_has : n ≡ 0 → (k : ℕ) → a ≤ k → k < e → Has k → ⊥
    none_has z = none e l (omega (arith, c.adds))

    pub all_have : e - a ≤ n → (k : ℕ) → a ≤ k → k < e → Has k
    all_have h = all e l (omega (arith, c.adds, c.few))
