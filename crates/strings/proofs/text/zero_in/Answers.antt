-- `strings::text::zero_in` meets its contract. Assumes nothing.
use Rattle.std.proofs.Common.{◌≡◌, ◌∙◌, ap, eqb, rules, tests, length}
use Rattle.std.specs.List.{position}
use Rattle.std.specs.Option.{unwrap_or}
use Rattle.std.proofs.lemmas.Iterator.{YieldsList-from_slice}
use Rattle.std.proofs.lemmas.Iterator.Search.{position_from_yields_List}
use Rattle.store.proofs.Free.{lowest_found}
use Rattle.strings.proofs.text.zero_in.Goals as goal

pub returns : goal.returns
returns c =
    let bytes = c.args.part.now in
    let found : c.position.result ≡ position (λ x. eqb x 0) bytes = position_from_yields_List _ _ _ c.position.result c.position.ensures.ran (YieldsList-from_slice bytes c.iter.ensures.rest) (λ x b q k. search (rules, tests)) in
    c.unwrap_or.ensures ∙ ap (λ o. unwrap_or o (length bytes)) found ∙ lowest_found bytes
