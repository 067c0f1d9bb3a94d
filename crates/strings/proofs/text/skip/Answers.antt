-- `strings::text::skip` meets its contract. Assumes nothing.
use Rattle.std.proofs.Common.{◌≡◌, ◌∙◌, ◌/◌, ◌*◌, arith, rules, tests, length, subst, ◌≤◌, sym, ℕ}
use native.Mathlib.Nat.{div-add-mod}
use Rattle.std.specs.List.{prefix_len}
use Rattle.std.proofs.lemmas.Iterator.Consumers.{YieldsList-at, count_from_yields_List}
use Rattle.std.proofs.lemmas.Iterator.Search.{YieldsList-from_take_while}
use Rattle.std.proofs.lemmas.List.Folds.{length-prefix_len}
use Rattle.store.specs.Count.{lowest}
use Rattle.strings.proofs.ZeroLaws.{whole_steps, steps_yielded, passes, steps_passed}
use Rattle.strings.proofs.text.skip.Goals as goal

pub returns : goal.returns
returns c =
    let part = c.args.part.now in
    let k = c.args.step in
    let n : c.count.result ≡ prefix_len passes (whole_steps k part) =
    count_from_yields_List c.take_while.result _ c.count.ensures.ran (YieldsList-from_take_while _ passes (YieldsList-at c.take_while.ensures.source (steps_yielded k part c.requires c.chunks_exact.ensures.size c.chunks_exact.ensures.rest)) c.take_while.ensures.closure c.take_while.ensures.done (λ x b q h. search (rules, tests)))
    ∙ length-prefix_len passes (whole_steps k part) in
    subst (λ (x : ℕ). k * x ≤ lowest part) (sym n) (steps_passed k (length part / k) part (omega (arith, div-add-mod (length part) k)))
