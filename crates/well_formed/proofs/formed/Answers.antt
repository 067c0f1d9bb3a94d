-- `well_formed::formed` meets its contract: the scans and the two counts are W1 to W5. Assumes nothing.
use mathlib.Core.Path.{sym, ap, ◌∙◌}
use Prim.Native.Nat.{ℕ, ◌-◌}
use native.Mathlib.Omega.{arith}
use lib.ListN.{length}
use Rattle.std.proofs.lemmas.Bool.{eq-eqb}
use Rattle.store.proofs.Free.{free_le}
use Rattle.store.proofs.Tests.{says_map}
use Rattle.well_formed.proofs.Answered.{says_yes, says_equal}
use Rattle.well_formed.proofs.Verdict.{formed, none_used, words_of, count_of, counted}
use Rattle.well_formed.proofs.formed.Goals as goal

pub returns-in_default : goal.returns-in_default
returns-in_default c = λ wf. c.in_default.ensures (words_of _ c.requires wf)

pub overflow_sub-used : goal.overflow_sub-used
overflow_sub-used c = omega (arith, c.count_free.ensures, free_le c.args.store.now.fmarks.now)

pub returns-then-used-eq0 : goal.returns-then-used-eq0
returns-then-used-eq0 c =
    let used = ap (λ (n : ℕ). length c.args.store.now.fmarks.now - n) c.count_free.ensures in
    says_yes _ (eq-eqb _ _ c.if-used-eq0.true)
    (formed _ c.requires c.if-not-tables_ok.ensures c.in-Some.ensures.0 (none_used _ c.requires (sym used ∙ c.if-used-eq0.true)) c.in-Some.held (c.if-held-used.true ∙ used) (counted _ c.requires _ c.in-Some.ensures.1))

pub returns-else-used-eq0 : goal.returns-else-used-eq0
returns-else-used-eq0 c =
    let used = ap (λ (n : ℕ). length c.args.store.now.fmarks.now - n) c.count_free.ensures in
    says_map c.frames_ok.result
    (λ frames. formed _ c.requires c.if-not-tables_ok.ensures c.in-Some.ensures.0 frames c.in-Some.held (c.if-held-used.true ∙ used) (counted _ c.requires _ c.in-Some.ensures.1))
    (λ wf. wf.w5) c.frames_ok.ensures

pub returns-else-held-used : goal.returns-else-held-used
returns-else-held-used c =
    let used = ap (λ (n : ℕ). length c.args.store.now.fmarks.now - n) c.count_free.ensures in
    says_equal _ _ (λ e. absurd (c.if-held-used.false e)) (λ wf. sym (counted _ c.requires _ c.in-Some.ensures.1) ∙ count_of _ c.requires wf _ used)
