-- The invariants of the loops.
use Prim.Native.Nat.{◌*◌}
use Rattle.well_formed.specs.Scan.{WordsOk, Over, leaf_windowed}
use Rattle.well_formed.proofs.words.words_ok.Given as goal

abbrev pub invariant-loop-t : goal.invariant-loop-t
invariant-loop-t l = WordsOk l.words l.tmarks 0 (512 * l.t) × Over (leaf_windowed l.words l.tmarks) 0 (512 * l.t) l.held
