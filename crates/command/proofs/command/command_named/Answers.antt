-- `command::command::command_named` meets its contract. Assumes nothing.
use Rattle.std.proofs.Common.{◌≡◌, length, arith}
use Rattle.std.proofs.lemmas.Bool.Decides.{nat_tests}
use Rattle.std.proofs.lemmas.Slice.Eq.{text_from_reads}
use Rattle.command.specs.Command.{map_name}
use Rattle.command.proofs.Reading.{told_map}
use Rattle.command.proofs.command.command_named.Goals as goal

pub returns-in-map-len5 : goal.returns-in-map-len5
returns-in-map-len5 c =
    let name = c.args.name.now in
    let numbers = c.args.numbers.now in
    let l : length name ≡ 3 = grind (arith, nat_tests) in
    let m : length numbers ≡ 5 = grind (arith, nat_tests) in
    told_map name numbers (text_from_reads name map_name l (omega arith, (omega arith, (omega arith, tt)))) m
