-- What the program prints it can read: a number in decimal denotes that number, and the pieces of a line, with spaces between them, are the line.
-- Assumes nothing.
use mathlib.Core.Path.{◌≡◌, refl, ◌∙◌, ap}
use mathlib.Core.Bool.{Bool, true, false, cond, ◌&&◌}
use mathlib.Core.List.{List, [], ◌∷◌, ◌++◌}
use Prim.Native.Nat.{ℕ, zero, suc, ◌+◌, ◌-◌, ◌*◌, ◌/◌, ◌%◌, ◌^◌, ◌<◌}
use native.Mathlib.Decide.{dec_lt}
use native.Mathlib.Omega.{arith}
use lib.Dec.{ltb, leb, eqb}
use lib.ListN.{length, length-append}
use borrow.Author.Tests.{lt-ltb, le-ltb, le-leb, eqb-true, eqb-false}
use Rattle.std.specs.Prelude.{Some}
use Rattle.std.specs.List.{onto_first}
use Rattle.text.specs.Text.{spelt, decimal}
use Rattle.command.specs.Command.{all_digits, denotes, parsed_of, pieces_of}

-- ---- numbers

digits_append : (xs : List ℕ) (d : ℕ) → all_digits xs ≡ true → d < 10 → all_digits (xs ++ ((48 + d) ∷ [])) ≡ true
unfolding all_digits
digits_append [] d h l = rw (le-leb 48 (48 + d) (omega arith), le-leb (48 + d) 57 (omega arith))
digits_append (x ∷ xs) d h l = step (leb 48 x && leb x 57) (λ q. digits_append xs d q l) h
  where
    step : (t : Bool) → (all_digits xs ≡ true → all_digits (xs ++ ((48 + d) ∷ [])) ≡ true) → (t && all_digits xs) ≡ true → (t && all_digits (xs ++ ((48 + d) ∷ []))) ≡ true
    step true more q = more q
    step false more q = q

denotes_append : (acc : ℕ) (xs : List ℕ) (d : ℕ) → denotes acc (xs ++ ((48 + d) ∷ [])) ≡ denotes acc xs * 10 + d
unfolding denotes
denotes_append acc [] d = omega arith
denotes_append acc (x ∷ xs) d = denotes_append (acc * 10 + (x - 48)) xs d

none_digits : all_digits [] ≡ true
unfolding all_digits
none_digits = refl

none_denote : {n : ℕ} → n < 10 → denotes 0 [] ≡ n / 10
unfolding denotes
none_denote h = omega arith

-- with enough steps, n is spelt in digits that denote it
abbrev Back : ℕ → List ℕ → Type 0
Back n xs = (all_digits xs ≡ true) × (denotes 0 xs ≡ n) × (0 < length xs)

last_digit : (xs : List ℕ) (n : ℕ) → all_digits xs ≡ true → denotes 0 xs ≡ n / 10 → Back n (xs ++ ((48 + n % 10) ∷ []))
last_digit xs n a d = (digits_append xs (n % 10) a (omega arith), omega (arith, denotes_append 0 xs (n % 10), d), rw length-append (omega arith))

spelt_back : (k n : ℕ) → n < k → Back n (spelt k n)
unfolding spelt
spelt_back zero n l = absurd (omega arith)
spelt_back (suc k) n l = at (dec_lt n 10) (λ g. spelt_back k (n / 10) g)
  where
    at : Dec (n < 10) → (n / 10 < k → Back (n / 10) (spelt k (n / 10))) → Back n (cond (ltb n 10) [] (spelt k (n / 10)) ++ ((48 + n % 10) ∷ []))
    at (yes h) more = rw (lt-ltb n 10 h) (last_digit [] n none_digits (none_denote h))
    at (no h) more = let q = more (omega arith) in rw (le-ltb n 10 (omega arith)) (last_digit (spelt k (n / 10)) n q.0 q.1)

pub read_back : (n : ℕ) → n < 2 ^ 64 → parsed_of (decimal n) ≡ Some n
unfolding decimal
read_back n l =
    let q = spelt_back (suc n) n (omega arith) in
    rw (lt-ltb 0 (length (spelt (suc n) n)) q.2, q.0, q.1, lt-ltb n (2 ^ 64) l)

-- ---- pieces

-- pieces with a space between each two
unfoldable pub joined : List (List ℕ) → List ℕ
joined [] = []
joined (p ∷ []) = p
joined (p ∷ q ∷ ps) = p ++ (32 ∷ joined (q ∷ ps))

-- no byte of p is a space
abbrev pub Spaceless : List ℕ → Type 0
Spaceless [] = Unit {0}
Spaceless (b ∷ bs) = (b ≡ 32 → ⊥) × Spaceless bs

abbrev pub Pieces : List (List ℕ) → Type 0
Pieces [] = Unit {0}
Pieces (p ∷ ps) = Spaceless p × Pieces ps

grows : (b : ℕ) (p : List ℕ) (ps : List (List ℕ)) → joined ((b ∷ p) ∷ ps) ≡ b ∷ joined (p ∷ ps)
unfolding joined
grows b p [] = refl
grows b p (q ∷ ps) = refl

-- the pieces of a line have no space, and the spaces between them make the line
pub pieces_back : (s : List ℕ) → (p : List ℕ) × (ps : List (List ℕ)) × (pieces_of s ≡ p ∷ ps) × (joined (p ∷ ps) ≡ s) × Spaceless p × Pieces ps
unfolding joined
pieces_back [] = ([], [], refl, refl, tt, tt)
pieces_back (b ∷ bs) = at (eqb b 32) refl (pieces_back bs)
  where
    at : (t : Bool) → eqb b 32 ≡ t → (p : List ℕ) × (ps : List (List ℕ)) × (pieces_of bs ≡ p ∷ ps) × (joined (p ∷ ps) ≡ bs) × Spaceless p × Pieces ps
        → (p : List ℕ) × (ps : List (List ℕ)) × (cond (eqb b 32) ([] ∷ pieces_of bs) (onto_first b (pieces_of bs)) ≡ p ∷ ps) × (joined (p ∷ ps) ≡ b ∷ bs) × Spaceless p × Pieces ps
    at true e (p, ps, h, j, c, cs) = ([], p ∷ ps, rw (e, h) refl, rw (j, eqb-true b 32 e) refl, tt, (c, cs))
    at false e (p, ps, h, j, c, cs) = (b ∷ p, ps, rw (e, h) refl, grows b p ps ∙ ap (λ (l : List ℕ). b ∷ l) j, (eqb-false b 32 e, c), cs)
