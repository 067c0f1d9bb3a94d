-- What the scans of the words say, a part at a time.
use Rattle.std.specs.Prelude.{◌≡◌, ◌⊎◌, List, Option, Some, None, ℕ, ◌+◌, ◌-◌, ◌*◌, ◌/◌, ◌%◌, ◌^◌, ◌≤◌, ◌<◌}
use Rattle.address.specs.Field.{bit}
use Rattle.store.specs.Sum.{sum, same}
use Rattle.store.specs.Store.{word, mark, pointer_to}
use Rattle.store.specs.Level.{level}
use Rattle.store.specs.WellFormed.{Inner, Pointed, Points, Named}

-- P holds from a up to, not including, e
abbrev pub Each : (ℕ → Type 0) → ℕ → ℕ → Type 0
Each P a e = (k : ℕ) → a ≤ k → k < e → P k

abbrev pub Zeros : List ℕ → ℕ → ℕ → Type 0
Zeros ws a e = Each (λ (k : ℕ). word ws k ≡ 0) a e

abbrev pub Pointers : List ℕ → List ℕ → ℕ → ℕ → Type 0
Pointers ws ms a e = Each (λ (k : ℕ). (word ws k ≡ 0) ⊎ Points ws ms k) a e

-- pointers in the first 256 words, zeros in the others
pub record Root (ws ms : List ℕ) (a : ℕ) : Type 0 where
  pub low : Pointers ws ms a (a + 256)
  pub high : Zeros ws (a + 256) (a + 512)

-- r is above each word, has each of their bits, and has no bit above theirs
pub record OrOf (ws : List ℕ) (a e r : ℕ) : Type 0 where
  pub above : Each (λ (k : ℕ). word ws k ≤ r) a e
  pub bits : (j : ℕ) → bit j r ≡ 0 → Each (λ (k : ℕ). bit j (word ws k) ≡ 0) a e
  pub within : (j : ℕ) → Each (λ (k : ℕ). word ws k < 2 ^ j) a e → r < 2 ^ j

abbrev pub OddOrZero : ℕ → Type 0
OddOrZero x = (x ≡ 0) ⊎ (x % 2 ≡ 1)

-- what W4 says of a level-0 word x, but for the mark of its pool frame
pub record Shape (x : ℕ) : Type 0 where
  pub valid : OddOrZero x
  pub clear : x < 2 ^ 54

abbrev pub Shapes : List ℕ → ℕ → ℕ → Type 0
Shapes ws a e = Each (λ (k : ℕ). Shape (word ws k)) a e

-- 1 where the frame of x lies in the held window, else 0
abbrev pub in_window : ℕ → ℕ
in_window x = same (x / 2 ^ 27) 8

-- r is even exactly where x is odd or 0
pub record FlagOf (x r : ℕ) : Type 0 where
  pub odd : r % 2 ≡ 0 → OddOrZero x
  pub even : OddOrZero x → r % 2 ≡ 0

-- r is even exactly where each word is odd or 0
pub record FlagsOf (ws : List ℕ) (a e r : ℕ) : Type 0 where
  pub odd : r % 2 ≡ 0 → Each (λ (k : ℕ). OddOrZero (word ws k)) a e
  pub even : Each (λ (k : ℕ). OddOrZero (word ws k)) a e → r % 2 ≡ 0

-- g a + .. + g (e - 1) is n, said by the sums up to both ends
pub record Over (g : ℕ → ℕ) (a e n : ℕ) : Type 0 where
  pub adds : sum g a + n ≡ sum g e
  pub few : n ≤ e - a

-- what a scan of a part finds: how many of its words g counts where P holds of it, and None where P does not
abbrev pub Finds : Type 0 → (ℕ → ℕ) → ℕ → ℕ → Option ℕ → Type 0
Finds P g a e None = P → ⊥
Finds P g a e (Some n) = P × Over g a e n

-- the table that the word x points to, or None where x points to no table
abbrev pub PointsTo : ℕ → Option ℕ → Type 0
PointsTo x None = (t : ℕ) → x ≡ pointer_to t → ⊥
PointsTo x (Some t) = x ≡ pointer_to t

-- how many words of ws lie in the held window, all of them and those of level-0 tables
abbrev pub windowed : List ℕ → ℕ → ℕ
windowed ws k = in_window (word ws k)

abbrev pub leaf_windowed : List ℕ → List ℕ → ℕ → ℕ
leaf_windowed ws ms k = same (level ms (k / 512)) 0 * in_window (word ws k)

-- what W1, W3 and the shapes of W4 say of one word, W2 of one table and W5 of one frame
pub record WordOk (ws ms : List ℕ) (w : ℕ) : Type 0 where
  pub w1 : mark ms (w / 512) ≡ 0 → word ws w ≡ 0
  pub w3 : Inner (level ms (w / 512)) → (word ws w ≡ 0) ⊎ Points ws ms w
  pub w3_root : mark ms (w / 512) ≡ 1 → 256 ≤ w % 512 → word ws w ≡ 0
  pub w4 : level ms (w / 512) ≡ 0 → Shape (word ws w)

abbrev pub WordsOk : List ℕ → List ℕ → ℕ → ℕ → Type 0
WordsOk ws ms a e = Each (WordOk ws ms) a e

abbrev pub TableOk : List ℕ → List ℕ → ℕ → Type 0
TableOk ws ms t = 2 ≤ mark ms t → Pointed ws ms t

abbrev pub FrameOk : List ℕ → List ℕ → List ℕ → ℕ → Type 0
FrameOk ws ms fs f = (mark fs f ≡ 0) ⊎ Named ws ms fs f
