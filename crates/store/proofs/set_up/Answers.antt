-- `store::set_up` meets its contract. Assumes nothing.
use mathlib.Core.Path.{refl}
use Rattle.store.proofs.Tests.{yes, no}
use Rattle.store.proofs.SetUp.{no_1, clear}
use Rattle.store.proofs.set_up.Goals as goal

pub returns-then-not-sized : goal.returns-then-not-sized
returns-then-not-sized c = (no_1 _ (no c.sized.result c.if-not-sized.true c.sized.ensures), refl)

pub returns : goal.returns
returns c = (
  clear _ (yes c.sized.result c.if-not-sized.false c.sized.ensures),
  (
    refl,
    λ i. record {
      words = c.fill.ensures.after (λ _ e. e) i;
      tmarks = c.fill-2.ensures.after (λ _ e. e) i;
      bytes = c.fill-3.ensures.after (λ _ e. e) i;
      fmarks = c.fill-4.ensures.after (λ _ e. e) i;
    },
  ),
)
