-- What holds after bytes have moved between the kernel's buffer and a process.
use Rattle.std.specs.Prelude.{◌≡◌, List, ℕ, ◌+◌, ◌/◌, ◌^◌, ◌<◌, length, get_or}
use Rattle.store.specs.Store.{Store, Sized, mark}
use Rattle.store.specs.WellFormed.{WellFormed}
use Rattle.store.specs.Walk.{resolve}
use Rattle.walk.specs.Mapped.{Other}
use Rattle.unmap.specs.Leave.{PoolFrame}
use Rattle.copies.specs.Bytes.{place_at, byte_at}

-- `copy_in`: byte i of the buffer is the byte at va + i
pub record MovedIn (s : Store) (root va : ℕ) (dst dst' : List ℕ) : Type 0 where
  pub size : length dst' ≡ length dst
  pub bytes : (i : ℕ) → i < length dst → get_or dst' i 0 ≡ byte_at s root (va + i)

-- `copy_out`: afterwards the byte at va + i is src[i], and every other byte of the frames is as before
pub record MovedOut (s : Store) (root va : ℕ) (src : List ℕ) (s' : Store) : Type 0 where
  pub sized : Sized s'
  pub well_formed : WellFormed s'
  pub words : s'.words ≡ s.words
  pub tmarks : s'.tmarks ≡ s.tmarks
  pub fmarks : s'.fmarks ≡ s.fmarks
  pub bytes : (i : ℕ) → i < length src → byte_at s' root (va + i) ≡ get_or src i 0
  -- byte k of the frames, where it lies at none of these addresses
  pub rest : (k : ℕ) → ((i : ℕ) → i < length src → k ≡ place_at s root (va + i) → ⊥) → get_or s'.bytes k 0 ≡ get_or s.bytes k 0
  -- the byte at every other address, of this root and of every other, whose page has a pool frame
  pub others : (r' a' : ℕ) → mark s.tmarks r' ≡ 1 → a' < 2 ^ 38 → PoolFrame s (resolve s r' (a' / 4096)) → Other root va (length src) r' a' → byte_at s' r' a' ≡ byte_at s r' a'
