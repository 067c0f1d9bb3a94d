-- The samples hold, by computing. Assumes nothing.
use mathlib.Core.Path.{refl}
use Rattle.page_table_entry.specs.Built.{written}
use Rattle.store.specs.Count.{zeros}
use Rattle.store.specs.Walk.{slot_word, slot}
use Rattle.walk.specs.Missing.{span, missing_in, missing}
use Rattle.samples.specs.Samples.{Samples}

pub samples : Samples
unfolding written missing missing_in span zeros slot slot_word
samples = (
  (refl, refl, refl),
  (refl, refl, refl),
  refl,
  refl,
  refl,
  refl,
  record { from = refl; upto = refl },
  record { from = refl; upto = refl },
  record { from = refl; upto = refl },
  refl,
  refl,
  (refl, refl),
)
