-- `command::command::read_command` meets its contract. Assumes nothing.
use Rattle.std.proofs.Common.{rules, tests, ◌∙◌, arith}
use Rattle.std.proofs.lemmas.Grind.{common_steps}
use Rattle.command.proofs.Reading.{named, other_piece, more_than_five, all_pieces}
use Rattle.command.proofs.command.read_command.Goals as goal

pub returns-in_err-read_number : goal.returns-in_err-read_number
returns-in_err-read_number c =
    let p = c.split-pieces in
    let n = named c.args.line.now p.result c.next.ensures.steps c.in_ok-name.was p.ensures.rest p.ensures.done p.ensures.closure (λ x b q k. search (rules, tests)) in
    let l = c.loop-piece in
    let m = c.next-in-loop-piece in
    c.from_residual-in_err-read_number.ensures ∙ other_piece n (omega arith) l.yielded l.piece-iterator (rw c.into_iter-piece-iterator.ensures.into_iter_gives at l.yielded_by) l.numbers.items l.invariant m.result m.new.self m.ensures.steps _ c.in-Some.is c.in_err-read_number.ensures

pub returns-in_err-ok : goal.returns-in_err-ok
returns-in_err-ok c =
    let p = c.split-pieces in
    let n = named c.args.line.now p.result c.next.ensures.steps c.in_ok-name.was p.ensures.rest p.ensures.done p.ensures.closure (λ x b q k. search (rules, tests)) in
    let l = c.loop-piece in
    let m = c.next-in-loop-piece in
    c.from_residual-in_err-ok.ensures ∙ more_than_five n (omega arith) l.yielded l.piece-iterator (rw c.into_iter-piece-iterator.ensures.into_iter_gives at l.yielded_by) l.numbers.items l.invariant m.result m.new.self m.ensures.steps _ c.in-Some.is (grind (arith, common_steps, c.in_err-ok.ensures.variant, c.try_push.ensures.full))

pub returns : goal.returns
returns c =
    let p = c.split-pieces in
    let n = named c.args.line.now p.result c.next.ensures.steps c.in_ok-name.was p.ensures.rest p.ensures.done p.ensures.closure (λ x b q k. search (rules, tests)) in
    let l = c.loop-piece in
    let m = c.next-in-loop-piece in
    c.command_named.ensures ∙ rw c.deref.ensures.0 (all_pieces n (omega arith) l.yielded l.piece-iterator (rw c.into_iter-piece-iterator.ensures.into_iter_gives at l.yielded_by) l.numbers.items l.invariant m.result m.new.self m.ensures.steps c.in-None.is)
