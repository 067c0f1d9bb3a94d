-- `store::count::count_free` meets its contract. Assumes nothing.
use Rattle.std.proofs.Common.{sym, ap, ◌∙◌, arith, eqb}
use Rattle.std.specs.List.{count_by}
use lib.Seq.{take_all}
use Rattle.store.proofs.Free.{free_counts}
use Rattle.store.proofs.count.count_free.Goals as goal

pub returns : goal.returns
returns c =
    let ms = c.args.marks.now in
    c.loop-m.invariant ∙ ap (count_by (λ m. eqb m 0)) (take_all c.loop-m.m-index ms (omega arith)) ∙ sym (free_counts ms)
