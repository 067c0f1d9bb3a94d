-- Lines and texts of document 01's program, and lines beside them, worked out from the definitions. Assumes nothing.
use mathlib.Core.Path.{◌≡◌, refl, sym}
use mathlib.Core.List.{[], ◌∷◌}
use native.Mathlib.Omega.{arith}
use Rattle.std.specs.Prelude.{Some, None, Ok}
use Rattle.command.specs.declared.command.Command.TheVariants.{New, Map, Find, Dump}
use Rattle.command.specs.Command.{command_of, all_digits, denotes, all_numbers, values}
use Rattle.text.specs.Text.{spelt, decimal, line_of, said, no_line, row_text}
use Rattle.text.proofs.Decimals.{decimal_is}

-- `new`
line_1 : command_of (110 ∷ 101 ∷ 119 ∷ []) ≡ Some New
unfolding all_digits denotes all_numbers values
line_1 = refl

-- `map 0 4096 2147483648 4096 22`
line_2 : command_of (109 ∷ 97 ∷ 112 ∷ 32 ∷ 48 ∷ 32 ∷ 52 ∷ 48 ∷ 57 ∷ 54 ∷ 32 ∷ 50 ∷ 49 ∷ 52 ∷ 55 ∷ 52 ∷ 56 ∷ 51 ∷ 54 ∷ 52 ∷ 56 ∷ 32 ∷ 52 ∷ 48 ∷ 57 ∷ 54 ∷ 32 ∷ 50 ∷ 50 ∷ []) ≡ Some (Map 0 4096 2147483648 4096 22)
unfolding all_digits denotes all_numbers values
line_2 = refl

-- `find 0 4100`
line_3 : command_of (102 ∷ 105 ∷ 110 ∷ 100 ∷ 32 ∷ 48 ∷ 32 ∷ 52 ∷ 49 ∷ 48 ∷ 48 ∷ []) ≡ Some (Find 0 4100)
unfolding all_digits denotes all_numbers values
line_3 = refl

-- `dump 0`
line_4 : command_of (100 ∷ 117 ∷ 109 ∷ 112 ∷ 32 ∷ 48 ∷ []) ≡ Some (Dump 0)
unfolding all_digits denotes all_numbers values
line_4 = refl

-- `find 0 18446744073709551615`
line_5 : command_of (102 ∷ 105 ∷ 110 ∷ 100 ∷ 32 ∷ 48 ∷ 32 ∷ 49 ∷ 56 ∷ 52 ∷ 52 ∷ 54 ∷ 55 ∷ 52 ∷ 52 ∷ 48 ∷ 55 ∷ 51 ∷ 55 ∷ 48 ∷ 57 ∷ 53 ∷ 53 ∷ 49 ∷ 54 ∷ 49 ∷ 53 ∷ []) ≡ Some (Find 0 18446744073709551615)
unfolding all_digits denotes all_numbers values
line_5 = refl

-- `find 0 18446744073709551616`
line_6 : command_of (102 ∷ 105 ∷ 110 ∷ 100 ∷ 32 ∷ 48 ∷ 32 ∷ 49 ∷ 56 ∷ 52 ∷ 52 ∷ 54 ∷ 55 ∷ 52 ∷ 52 ∷ 48 ∷ 55 ∷ 51 ∷ 55 ∷ 48 ∷ 57 ∷ 53 ∷ 53 ∷ 49 ∷ 54 ∷ 49 ∷ 54 ∷ []) ≡ None
unfolding all_digits denotes all_numbers values
line_6 = refl

-- `find 007 0`
line_7 : command_of (102 ∷ 105 ∷ 110 ∷ 100 ∷ 32 ∷ 48 ∷ 48 ∷ 55 ∷ 32 ∷ 48 ∷ []) ≡ Some (Find 7 0)
unfolding all_digits denotes all_numbers values
line_7 = refl

-- an empty line
line_8 : command_of ([]) ≡ None
unfolding all_digits denotes all_numbers values
line_8 = refl

-- `new `
line_9 : command_of (110 ∷ 101 ∷ 119 ∷ 32 ∷ []) ≡ None
unfolding all_digits denotes all_numbers values
line_9 = refl

-- `find 0  0`
line_10 : command_of (102 ∷ 105 ∷ 110 ∷ 100 ∷ 32 ∷ 48 ∷ 32 ∷ 32 ∷ 48 ∷ []) ≡ None
unfolding all_digits denotes all_numbers values
line_10 = refl

-- `new\r`
line_11 : command_of (110 ∷ 101 ∷ 119 ∷ 13 ∷ []) ≡ None
unfolding all_digits denotes all_numbers values
line_11 = refl

-- `dump`
line_12 : command_of (100 ∷ 117 ∷ 109 ∷ 112 ∷ []) ≡ None
unfolding all_digits denotes all_numbers values
line_12 = refl

-- `ok 0`
text_1 : said (Ok 0) ≡ 111 ∷ 107 ∷ 32 ∷ 48 ∷ 10 ∷ []
unfolding said line_of row_text decimal spelt
text_1 = refl

-- `no 99`
text_2 : no_line 99 ≡ 110 ∷ 111 ∷ 32 ∷ 57 ∷ 57 ∷ 10 ∷ []
unfolding said line_of row_text decimal spelt
text_2 = refl

-- `2 255 97`
text_3 : row_text 2 255 97 ≡ 50 ∷ 32 ∷ 50 ∷ 53 ∷ 53 ∷ 32 ∷ 57 ∷ 55 ∷ 10 ∷ []
unfolding said line_of row_text decimal spelt
text_3 = refl

-- `1073742849`
number_1 : decimal 1073742849 ≡ 49 ∷ 48 ∷ 55 ∷ 51 ∷ 55 ∷ 52 ∷ 50 ∷ 56 ∷ 52 ∷ 57 ∷ []
number_1 = sym (decimal_is 10 1073742849 (omega arith, omega arith, λ q. omega arith))

-- `18446744073709551615`
number_2 : decimal 18446744073709551615 ≡ 49 ∷ 56 ∷ 52 ∷ 52 ∷ 54 ∷ 55 ∷ 52 ∷ 52 ∷ 48 ∷ 55 ∷ 51 ∷ 55 ∷ 48 ∷ 57 ∷ 53 ∷ 53 ∷ 49 ∷ 54 ∷ 49 ∷ 53 ∷ []
number_2 = sym (decimal_is 20 18446744073709551615 (omega arith, omega arith, λ q. omega arith))
