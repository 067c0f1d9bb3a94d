-- Who owns what: the word that points to a table, the word that names a pool frame, the root and the page that a word is read for.
use Rattle.std.specs.Prelude.{◌≡◌, ℕ, ◌+◌, ◌/◌, ◌^◌, ◌<◌, length}
use Rattle.store.specs.Store.{Store, word, mark, pointer_to, frame_no, pool_no}
use Rattle.store.specs.Level.{level}
use Rattle.store.specs.WellFormed.{Inner}
use Rattle.store.specs.Walk.{slot_word, slot}

-- word w, of a table of level 2 or 1, points to table t
pub record PointsTo (s : Store) (w t : ℕ) : Type 0 where
  pub inner : Inner (level s.tmarks (w / 512))
  pub word : word s.words w ≡ pointer_to t

-- word w, of a table of level 0, names pool frame f
pub record NamesFrame (s : Store) (w f : ℕ) : Type 0 where
  pub level : level s.tmarks (w / 512) ≡ 0
  pub there : f < length s.fmarks
  pub number : frame_no (word s.words w) ≡ pool_no f

-- word w is the one that the walk from root r reads for page p
pub record ReadFor (s : Store) (w r p : ℕ) : Type 0 where
  pub root : mark s.tmarks r ≡ 1
  pub page : p < 2 ^ 26
  pub slot : slot (slot_word s.words) r 2 p ≡ w + 2

-- table t is root r, or a word of a table below r points to it
pub data Below (s : Store) (r : ℕ) : ℕ → Type 0 where
  self : mark s.tmarks r ≡ 1 → Below s r r
  step : {w t : ℕ} → Below s r (w / 512) → PointsTo s w t → Below s r t
