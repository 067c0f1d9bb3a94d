-- The pieces so far are numbers, and these are they.
use Rattle.std.proofs.Common.{◌≡◌, map, Some}
use Rattle.command.specs.Command.{parsed_of}
use Rattle.command.proofs.command.read_command.Given as goal

abbrev pub invariant-loop-piece : goal.invariant-loop-piece
invariant-loop-piece l = map (λ x. parsed_of x.now) l.yielded ≡ map (λ v. Some v) l.numbers.items
