-- `dump::listing::dump` meets its contract. Assumes nothing.
use mathlib.Core.Path.{refl}
use native.Mathlib.Omega.{arith}
use lib.ListN.{length-append}
use Rattle.std.specs.Prelude.{Ok, Err}
use Rattle.well_formed.proofs.RootReasons.{root_clear}
use Rattle.walk.proofs.Calls.{root_in}
use Rattle.dump.specs.Dump.{listed}
use Rattle.text.proofs.Writing.{wrote_then}
use Rattle.dump.proofs.Bound.{root_few}
use Rattle.dump.proofs.listing.dump.Goals as goal

pub returns-in-Err : goal.returns-in-Err
unfolding listed
returns-in-Err c =
    let w = c.put_answer.ensures in
    record { answer = Err c.in-Err.refusal; holds = (c.in-Err.ensures, refl); wrote = w.wrote; short = omega (arith, w.short) }

pub list_table-count-requires-clause-t_bound : goal.list_table-count-requires-clause-t_bound
list_table-count-requires-clause-t_bound c =
    let r = c.in-Ok.ensures in
    (omega (arith, root_in _ _ r.sized r.is_root), omega arith)

pub list_table-count-requires-clause-room : goal.list_table-count-requires-clause-room
list_table-count-requires-clause-room c =
    let r = c.in-Ok.ensures in
    omega (arith, root_few _ _ r.sized r.formed r.is_root, r.sized.tables_to)

pub returns-in-Ok : goal.returns-in-Ok
unfolding listed
returns-in-Ok c =
    let r = c.in-Ok.ensures in
    let l = c.list_table-count.ensures in
    let w = c.put_answer-in-Ok.ensures in
    record {
      answer = Ok c.list_table-count.result;
      holds = (root_clear _ _ r, (omega (arith, l.count), refl));
      wrote = wrote_then l.wrote w.wrote;
      short = simp length-append (omega (arith, l.short, w.short, root_few _ _ r.sized r.formed r.is_root));
    }
