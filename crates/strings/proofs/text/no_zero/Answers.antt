-- `strings::text::no_zero` meets its contract. Assumes nothing.
use Rattle.std.proofs.Common.{◌∙◌, ap, not, eqb, rules, tests}
use Prim.Native.Nat.{min}
use Rattle.std.proofs.lemmas.Iterator.{YieldsList-from_slice}
use Rattle.std.proofs.lemmas.Iterator.Consumers.{fold_from_yields_List}
use Rattle.strings.proofs.ZeroLaws.{least_tells}
use Rattle.strings.proofs.text.no_zero.Goals as goal

pub returns : goal.returns
returns c =
    let bytes = c.args.part.now in
    ap (λ n. not (eqb n 0)) (fold_from_yields_List _ (λ a x. min a x) 255 c.fold.result c.fold.ensures.ran (YieldsList-from_slice bytes c.iter.ensures.rest) (λ a x b q k. search (rules, tests))) ∙ least_tells 254 bytes
