-- What the program prints: numbers in decimal, the lines of answers and of the dump; and how text goes into a lent slice.
use Rattle.std.specs.Prelude.{◌≡◌, cond, List, [], ◌∷◌, ◌++◌, ℕ, zero, suc, ◌+◌, ◌/◌, ◌%◌, ◌≤◌, ltb, length, take, Result, Ok, Err}
use Rattle.refusal.specs.declared.Refusal.{Refusal}
use Rattle.refusal.specs.Number.{number_of}
use Rattle.text.specs.declared.text.Text.{Text}

-- the digits of n, of which there are at most k: a number below 10 is one digit, any other is what stands before its last digit and then that
unfoldable pub spelt : ℕ → ℕ → List ℕ
spelt zero n = []
spelt (suc k) n = cond (ltb n 10) [] (spelt k (n / 10)) ++ ((48 + n % 10) ∷ [])

-- n in decimal, without leading zeros
unfoldable pub decimal : ℕ → List ℕ
decimal n = spelt (suc n) n

-- a word, a number and a line end
unfoldable pub line_of : List ℕ → ℕ → List ℕ
line_of word n = word ++ (decimal n ++ (10 ∷ []))

-- the line of a refusal: `no` and its number
abbrev pub no_line : ℕ → List ℕ
no_line n = line_of (110 ∷ 111 ∷ 32 ∷ []) n

-- the line of an answer: `ok` and the value, or that of the refusal
unfoldable pub said : Result ℕ Refusal → List ℕ
said (Ok v) = line_of (111 ∷ 107 ∷ 32 ∷ []) v
said (Err r) = no_line (number_of r)

-- a line of the dump: level, index, word
unfoldable pub row_text : ℕ → ℕ → ℕ → List ℕ
row_text level index word = decimal level ++ (32 ∷ (decimal index ++ (32 ∷ (decimal word ++ (10 ∷ [])))))

-- the text so far
abbrev pub written : Text → List ℕ
written t = take t.at t.out.now

-- the slice of t' is the one that was lent to t, as long as it was, and the text in it is that of t with this text behind it, as far as there is room
pub record Wrote (t : Text) (text : List ℕ) (t' : Text) : Type 0 where
  pub same_reference : t'.out.ghost_name ≡ t.out.ghost_name
  pub room : length t'.out.now ≡ length t.out.now
  pub bytes : written t' ≡ take (length t.out.now) (written t ++ text)

-- the same for a line of a word and a number, and for the line of an answer; a number has at most 20 digits
pub record LineWrote (t : Text) (word : List ℕ) (n : ℕ) (t' : Text) : Type 0 where
  pub wrote : Wrote t (line_of word n) t'
  pub short : length (line_of word n) ≤ length word + 21

pub record SaidWrote (t : Text) (a : Result ℕ Refusal) (t' : Text) : Type 0 where
  pub wrote : Wrote t (said a) t'
  pub short : length (said a) ≤ 24

-- the same for a line of the dump, which has at most 27 bytes
pub record RowWrote (t : Text) (level index word : ℕ) (t' : Text) : Type 0 where
  pub wrote : Wrote t (row_text level index word) t'
  pub short : length (row_text level index word) ≤ 27
