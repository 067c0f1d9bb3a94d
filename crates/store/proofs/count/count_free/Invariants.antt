-- The invariants of the loops: n of the marks so far are free.
use Rattle.std.proofs.Common.{◌≡◌, eqb, take}
use Rattle.std.specs.List.{count_by}
use Rattle.store.proofs.count.count_free.Given as goal

abbrev pub invariant-loop-m : goal.invariant-loop-m
invariant-loop-m l = l.n ≡ count_by (λ m. eqb m 0) (take l.m-index l.marks)
