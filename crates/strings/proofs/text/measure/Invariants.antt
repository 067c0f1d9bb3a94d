-- The invariants of the loops.
use Prim.Native.Nat.{◌-◌}
use Rattle.strings.proofs.TextCode.{Following}
use Rattle.store.specs.Store.{seen}
use Rattle.strings.proofs.text.measure.Given as goal

abbrev pub invariant-loop-k : goal.invariant-loop-k
invariant-loop-k l = Following (seen l.store) l.root l.va l.max l.i

abbrev pub decreases-loop-k : goal.decreases-loop-k
decreases-loop-k l = l.max - l.i
