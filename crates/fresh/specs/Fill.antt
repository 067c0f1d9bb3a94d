-- A slot that gets a fresh frame: the entry, the frame that is taken, and its bytes.
use Rattle.std.specs.Prelude.{List, ◌++◌, ℕ, ◌+◌, ◌*◌, set, take, drop}
use Rattle.store.specs.Store.{Store, pool_no}
use Rattle.store.specs.Count.{lowest}
use Rattle.enter.specs.Enter.{put_slot}

-- the entry of pool frame f with the flags q
abbrev pub pool_entry : ℕ → ℕ → ℕ
pool_entry f q = 1024 * pool_no f + q

-- the frame bytes in which frame f holds b, 4,096 bytes
unfoldable pub framed : List ℕ → ℕ → List ℕ → List ℕ
framed bs f b = take (4096 * f) bs ++ (b ++ drop 4096 (drop (4096 * f) bs))

-- slot m gets the lowest free frame with the flags q, and this holds b
unfoldable pub filled : Store → ℕ → ℕ → List ℕ → Store
filled s m q b = record {
  words = put_slot s.words m (pool_entry (lowest s.fmarks) q);
  tmarks = s.tmarks;
  bytes = framed s.bytes (lowest s.fmarks) b;
  fmarks = set s.fmarks (lowest s.fmarks) m;
}
