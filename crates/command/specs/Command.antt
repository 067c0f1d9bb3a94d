-- Which lines are which command: a name and its numbers, with single spaces between them.
use Rattle.std.specs.Prelude.{Bool, true, false, cond, ◌&&◌, List, [], ◌∷◌, map, ℕ, ◌+◌, ◌-◌, ◌*◌, ◌^◌, ltb, leb, eqb, length, Option, Some, None}
use Rattle.std.specs.List.{slice_split}
use Rattle.std.specs.Str.{bytes_eq}
use Rattle.command.specs.declared.command.Command.{Command}
use Rattle.command.specs.declared.command.Command.TheVariants.{New, Map, Find, Dump}

-- ---- numbers

unfoldable pub all_digits : List ℕ → Bool
all_digits [] = true
all_digits (b ∷ bs) = (leb 48 b && leb b 57) && all_digits bs

-- the number that a row of digits denotes, read on from acc, the most significant first
unfoldable pub denotes : ℕ → List ℕ → ℕ
denotes acc [] = acc
denotes acc (b ∷ bs) = denotes (acc * 10 + (b - 48)) bs

-- digits only, which denote a number below 2^64
abbrev pub number_from : ℕ → List ℕ → Option ℕ
number_from acc s = cond (all_digits s && ltb (denotes acc s) (2 ^ 64)) (Some (denotes acc s)) None

-- and not empty; leading zeros are allowed
abbrev pub parsed_of : List ℕ → Option ℕ
parsed_of s = cond (ltb 0 (length s)) (number_from 0 s) None

-- ---- pieces

-- what stands between the spaces of a line: two spaces have an empty piece between them, and a line without a space is one piece
abbrev pub pieces_of : List ℕ → List (List ℕ)
pieces_of s = slice_split (λ b. eqb b 32) s

-- ---- commands

abbrev pub new_name : List ℕ
new_name = 110 ∷ 101 ∷ 119 ∷ []

abbrev pub map_name : List ℕ
map_name = 109 ∷ 97 ∷ 112 ∷ []

abbrev pub find_name : List ℕ
find_name = 102 ∷ 105 ∷ 110 ∷ 100 ∷ []

abbrev pub dump_name : List ℕ
dump_name = 100 ∷ 117 ∷ 109 ∷ 112 ∷ []

-- the pieces are all numbers, and these are they
unfoldable pub all_numbers : List (Option ℕ) → Bool
all_numbers [] = true
all_numbers (Some v ∷ ps) = all_numbers ps
all_numbers (None ∷ ps) = false

unfoldable pub values : List (Option ℕ) → List ℕ
values [] = []
values (Some v ∷ ps) = v ∷ values ps
values (None ∷ ps) = []

-- `new`, `dump ROOT`, `find ROOT VA`, `map ROOT VA PA SIZE PERM`, and nothing else
abbrev pub told : List ℕ → List ℕ → Option Command
told name [] = cond (bytes_eq name new_name) (Some New) None
told name (root ∷ []) = cond (bytes_eq name dump_name) (Some (Dump root)) None
told name (root ∷ va ∷ []) = cond (bytes_eq name find_name) (Some (Find root va)) None
told name (x ∷ y ∷ z ∷ []) = None
told name (w ∷ x ∷ y ∷ z ∷ []) = None
told name (root ∷ va ∷ pa ∷ size ∷ perm ∷ []) = cond (bytes_eq name map_name) (Some (Map root va pa size perm)) None
told name (u ∷ v ∷ w ∷ x ∷ y ∷ z ∷ ns) = None

abbrev pub command : List ℕ → List (Option ℕ) → Option Command
command name ps = cond (all_numbers ps) (told name (values ps)) None

-- the first piece is the name, the others are the numbers
abbrev pub spoken : List (List ℕ) → Option Command
spoken [] = None
spoken (name ∷ ps) = command name (map parsed_of ps)

-- a line of more than 128 bytes is none of the commands
abbrev pub command_of : List ℕ → Option Command
command_of line = cond (ltb 128 (length line)) None (spoken (pieces_of line))
