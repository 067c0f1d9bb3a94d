-- What holds after a root has been created, filled and released.
use Rattle.std.specs.Prelude.{◌≡◌, ℕ, ◌<◌}
use Rattle.store.specs.Store.{Store, mark}
use Rattle.fresh.specs.Grown.{frame_byte}

-- s' is s once more: every table and every frame is as it was, but a free frame can hold other bytes
pub record Restored (s s' : Store) : Type 0 where
  pub words : s'.words ≡ s.words
  pub tmarks : s'.tmarks ≡ s.tmarks
  pub fmarks : s'.fmarks ≡ s.fmarks
  pub bytes : (f : ℕ) → 0 < mark s.fmarks f → (k : ℕ) → k < 4096 → frame_byte s' f k ≡ frame_byte s f k
