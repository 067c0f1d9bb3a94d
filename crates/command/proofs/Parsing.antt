-- How the reading of a number goes on from one digit. Assumes nothing.
use mathlib.Core.Path.{◌≡◌, refl, sym, ◌∙◌, ap}
use Prim.Native.Nat.{ℕ, suc, ◌+◌, ◌-◌, ◌*◌, ◌^◌, ◌<◌, ◌≤◌}
use native.Mathlib.Nat.{le_trans}
use native.Mathlib.Numerals.{add-one}
use native.Mathlib.Omega.{arith}
use mathlib.Core.Bool.{Bool, true, false, ◌&&◌}
use mathlib.Core.List.{List, [], ◌∷◌}
use mathlib.Core.Logic.{inl, inr}
use lib.ListN.{length, drop, get_or, drop_of_length-le}
use lib.Seq.{drop-cons}
use borrow.Author.Tests.{lt-ltb, le-ltb, le-leb, lt-leb}
use Rattle.std.specs.Prelude.{Some, None}
use Rattle.std.specs.Char.{IsAsciiDigit, IsNotAsciiDigit}
use Rattle.command.specs.Command.{all_digits, denotes, number_from, parsed_of}

and_false : (x : Bool) → (x && false) ≡ false
and_false true = refl
and_false false = refl

-- more digits make no smaller number
grows : (acc : ℕ) (bs : List ℕ) → acc ≤ denotes acc bs
unfolding denotes
grows acc [] = omega arith
grows acc (b ∷ bs) = omega (arith, grows (acc * 10 + (b - 48)) bs)

done : (acc : ℕ) → acc < 2 ^ 64 → number_from acc [] ≡ Some acc
unfolding all_digits denotes
done acc l = simp (lt-ltb acc (2 ^ 64) l)

module _ (acc b : ℕ) (bs : List ℕ) where
  digit : IsAsciiDigit b → number_from acc (b ∷ bs) ≡ number_from (acc * 10 + (b - 48)) bs
  unfolding all_digits denotes
  digit d = simp (le-leb 48 b d.0, le-leb b 57 d.1)

  no_digit : IsNotAsciiDigit b → number_from acc (b ∷ bs) ≡ None
  unfolding all_digits denotes
  no_digit (inl l) = simp (lt-leb 48 b l)
  no_digit (inr l) = simp (lt-leb b 57 l, and_false)

  large : 2 ^ 64 ≤ acc * 10 + (b - 48) → number_from acc (b ∷ bs) ≡ None
  unfolding all_digits denotes
  large l = simp (le-ltb (denotes (acc * 10 + (b - 48)) bs) (2 ^ 64) (le_trans l (grows (acc * 10 + (b - 48)) bs)), and_false)

-- what holds where the loop's test is reached
pub record Going (s : List ℕ) (acc i : ℕ) : Type 0 where
  pub fits : acc < 2 ^ 64
  pub same : parsed_of s ≡ number_from acc (drop i s)

pub begins : (s : List ℕ) → 0 < length s → Going s 0 0
begins s l = record { fits = omega arith; same = simp (lt-ltb 0 (length s) l) }

module _ {s : List ℕ} {acc i : ℕ} (g : Going s acc i) where
  -- the whole, by the next byte
  next : i < length s → parsed_of s ≡ number_from acc (get_or s i 0 ∷ drop (suc i) s)
  next l = g.same ∙ ap (number_from acc) (drop-cons s i 0 l)

  pub other_byte : i < length s → IsNotAsciiDigit (get_or s i 0) → None ≡ parsed_of s
  other_byte l n = sym (next l ∙ no_digit _ _ _ n)

  pub too_large : i < length s → 2 ^ 64 ≤ acc * 10 + (get_or s i 0 - 48) → None ≡ parsed_of s
  too_large l h = sym (next l ∙ large _ _ _ h)

  pub again : i < length s → IsAsciiDigit (get_or s i 0) → {n : ℕ} → n ≡ acc * 10 + (get_or s i 0 - 48) → n < 2 ^ 64 → Going s n (i + 1)
  again l d {n} e f = record { fits = f; same = next l ∙ digit acc (get_or s i 0) (drop (suc i) s) d ∙ rw (e, add-one) refl }

  pub ends : length s ≤ i → Some acc ≡ parsed_of s
  ends l = sym (g.same ∙ ap (number_from acc) (drop_of_length-le s l) ∙ done acc g.fits)
