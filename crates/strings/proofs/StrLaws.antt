-- The bytes before the first zero, by their addresses. Assumes nothing.
use mathlib.Core.Path.{◌≡◌, refl, sym, ap, ◌∙◌}
use mathlib.Core.Bool.{Bool, true, cond}
use mathlib.Core.List.{List, [], ◌∷◌}
use mathlib.Core.Logic.{by_cases}
use Prim.Native.Nat.{ℕ, zero, suc, ◌+◌, ◌≤◌, ◌<◌}
use native.Mathlib.Decide.{dec_lt}
use native.Mathlib.Omega.{arith}
use lib.Dec.{ltb, eqb, eqb-suc-zero, leb-zero, leb-suc-suc}
use lib.ListN.{length, get_or}
use Rattle.store.specs.Store.{Store}
use Rattle.store.specs.Count.{lowest}
use Rattle.store.proofs.Free.{lowest_here, lowest_le}
use Rattle.copies.specs.Bytes.{byte_at, bytes_at}
use Rattle.strings.specs.Str.{str_length, zero_met}
use Rattle.copies.proofs.BytesLaws.{bytes_length, bytes_get}

-- ---- the first zero of a list

lowest_before : (l : List ℕ) (j : ℕ) → j < lowest l → get_or l j 0 ≡ 0 → ⊥
lowest_before [] j h e = omega arith
lowest_before (zero ∷ l) j h e = omega arith
lowest_before (suc x ∷ l) zero h e = omega (arith, e)
lowest_before (suc x ∷ l) (suc j) h e = lowest_before l j (omega arith) e

lowest_zero : (l : List ℕ) → lowest l < length l → get_or l (lowest l) 0 ≡ 0
lowest_zero [] h = refl
lowest_zero (zero ∷ l) h = refl
lowest_zero (suc x ∷ l) h = lowest_zero l (omega arith)

lowest_from : (l : List ℕ) (i : ℕ) → i ≤ length l → ((j : ℕ) → j < i → get_or l j 0 ≡ 0 → ⊥) → i ≤ lowest l
lowest_from [] i h q = h
lowest_from (x ∷ l) zero h q = omega arith
lowest_from (zero ∷ l) (suc i) h q = absurd (q 0 (omega arith) refl)
lowest_from (suc x ∷ l) (suc i) h q = omega (arith, lowest_from l i (omega arith) (λ j g. q (suc j) (omega arith)))

-- one byte more, b
length_more : (b m : ℕ) (l : List ℕ) → m ≡ lowest l → cond (eqb b 0) 0 (suc m) ≡ lowest (b ∷ l)
length_more zero m l e = refl
length_more (suc b) m l e = ap (λ (x : Bool). cond x 0 (suc m)) (eqb-suc-zero b) ∙ ap suc e

met_more : (b m n : ℕ) (x : Bool) → x ≡ ltb m n → cond (eqb b 0) true x ≡ ltb (cond (eqb b 0) 0 (suc m)) (suc n)
met_more zero m n x e = sym (leb-suc-suc 0 n ∙ leb-zero n)
met_more (suc b) m n x e =
    ap (λ (y : Bool). cond y true x) (eqb-suc-zero b) ∙ e ∙ sym (ap (λ (y : Bool). ltb (cond y 0 (suc m)) (suc n)) (eqb-suc-zero b) ∙ leb-suc-suc (suc m) n)

module _ (s : Store) (r : ℕ) where
  pub str_lowest : (a n : ℕ) → str_length s r a n ≡ lowest (bytes_at s r a n)
  unfolding str_length bytes_at
  str_lowest a zero = refl
  str_lowest a (suc n) = length_more (byte_at s r a) (str_length s r (suc a) n) (bytes_at s r (suc a) n) (str_lowest (suc a) n)

  -- a zero was met exactly when fewer bytes were written than the buffer is long
  pub zero_met_lem : (a n : ℕ) → zero_met s r a n ≡ ltb (str_length s r a n) n
  unfolding str_length zero_met
  zero_met_lem a zero = refl
  zero_met_lem a (suc n) = met_more (byte_at s r a) (str_length s r (suc a) n) n (zero_met s r (suc a) n) (zero_met_lem (suc a) n)

  pub str_le : (a n : ℕ) → str_length s r a n ≤ n
  str_le a n = omega (arith, str_lowest a n, lowest_le (bytes_at s r a n), bytes_length s r a n)

  -- none of the bytes before it is zero
  pub str_before : (a n j : ℕ) → j < str_length s r a n → byte_at s r (a + j) ≡ 0 → ⊥
  str_before a n j h e =
      lowest_before (bytes_at s r a n) j (omega (arith, str_lowest a n)) (bytes_get s r a n j (omega (arith, str_le a n)) ∙ e)

  -- the byte at it is, where it is one of the n
  pub str_zero : (a n : ℕ) → str_length s r a n < n → byte_at s r (a + str_length s r a n) ≡ 0
  str_zero a n h =
      let l : List ℕ = bytes_at s r a n in
      sym (bytes_get s r a n (str_length s r a n) h) ∙ ap (λ (x : ℕ). get_or l x 0) (str_lowest a n) ∙ lowest_zero l (omega (arith, str_lowest a n, bytes_length s r a n))

  -- m bytes that are not zero, and then a zero or the end
  pub str_is : (a n m : ℕ) → m ≤ n → ((j : ℕ) → j < m → byte_at s r (a + j) ≡ 0 → ⊥) → (m < n → byte_at s r (a + m) ≡ 0) → m ≡ str_length s r a n
  str_is a n m h q z =
      let l : List ℕ = bytes_at s r a n in
      let b : m ≤ lowest l = lowest_from l m (omega (arith, bytes_length s r a n)) (λ j g e. q j g (sym (bytes_get s r a n j (omega arith)) ∙ e)) in
      by_cases (dec_lt m n)
      (λ g. lowest_here l m b (omega (arith, bytes_length s r a n)) (bytes_get s r a n m g ∙ z g) ∙ sym (str_lowest a n))
      (λ g. omega (arith, str_lowest a n, str_le a n))
