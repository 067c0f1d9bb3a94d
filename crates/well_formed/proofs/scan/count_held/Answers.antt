-- `well_formed::scan::count_held` meets its contract. Assumes nothing.
use mathlib.Core.Path.{subst⁻¹}
use Prim.Native.Nat.{ℕ, ◌+◌, zero-le}
use Rattle.store.proofs.Sums.{same_yes, same_no}
use Rattle.well_formed.specs.Scan.{Over, windowed}
use Rattle.well_formed.proofs.Parts.{over_one, over_skip}
use Rattle.well_formed.proofs.scan.count_held.Goals.{then-word-eq8, else-word-eq8}
use Rattle.well_formed.proofs.scan.count_held.Goals as goal

pub loop-word-preserved : goal.loop-word-preserved
loop-word-preserved c =
    let i = c.loop-word.invariant in
    let counts = λ (n : ℕ). Over (windowed c.args.words.now) 0 (c.loop-word.word-index + 1) n in
    elim c.if-word-eq8.branch [
      | then-word-eq8 w ↦ subst⁻¹ counts w.n-is (over_one _ _ _ _ zero-le (same_yes _ 8 w.if-word-eq8.true) i)
      | else-word-eq8 w ↦ subst⁻¹ counts w.n-is (over_skip _ _ _ _ zero-le (same_no _ 8 w.if-word-eq8.false) i)
    ]
