-- The invariants of the loops.
use mathlib.Core.Path.{◌≡◌}
use Prim.Native.Nat.{◌-◌}
use Rattle.store.specs.Count.{zeros}
use Rattle.walk.specs.Missing.{entry_under}
use Rattle.walk.proofs.missing.blocks_missing.Given as goal

abbrev pub invariant-loop-block : goal.invariant-loop-block
invariant-loop-block l = l.n ≡ zeros (entry_under l.words l.top) (l.block - l.first) l.first
