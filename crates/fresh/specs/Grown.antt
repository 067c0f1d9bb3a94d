-- What holds after pages have got fresh frames, and after they have given them back.
use Rattle.std.specs.Prelude.{◌≡◌, ◌↔◌, List, ℕ, ◌+◌, ◌*◌, ◌^◌, ◌<◌, length, get_or}
use Rattle.store.specs.Store.{Store, Sized, mark, frame_no, pool_no}
use Rattle.store.specs.WellFormed.{WellFormed}
use Rattle.store.specs.Count.{free_tables, free_frames}
use Rattle.store.specs.Walk.{resolve}
use Rattle.walk.specs.Missing.{missing}
use Rattle.walk.specs.Mapped.{Other}
use Rattle.fresh.specs.Fill.{pool_entry}

-- byte k of frame f
abbrev pub frame_byte : Store → ℕ → ℕ → ℕ
frame_byte s f k = get_or s.bytes (4096 * f + k) 0

-- page p of root r resolves in s' to a pool frame that was free in s, with the flags q, and this frame holds b
pub record FreshAt (s : Store) (r p q : ℕ) (b : List ℕ) (s' : Store) : Type 0 where
  pub frame : ℕ
  pub there : frame < length s.fmarks
  pub was_free : mark s.fmarks frame ≡ 0
  pub entry : resolve s' r p ≡ pool_entry frame q
  pub bytes : (k : ℕ) → k < 4096 → frame_byte s' frame k ≡ get_or b k 0

-- frame f has the mark and the bytes that it had
pub record FrameKept (s : Store) (f : ℕ) (s' : Store) : Type 0 where
  pub mark : mark s'.fmarks f ≡ mark s.fmarks f
  pub bytes : (k : ℕ) → k < 4096 → frame_byte s' f k ≡ frame_byte s f k

-- s' is s where pages p .. p + n - 1 of root r have fresh frames; page x has the flags q x, and its frame holds b x
pub record Grown (s : Store) (r p n : ℕ) (q : ℕ → ℕ) (b : ℕ → List ℕ) (s' : Store) : Type 0 where
  pub sized : Sized s'
  pub well_formed : WellFormed s'
  pub fresh : (i : ℕ) → i < n → FreshAt s r (p + i) (q (p + i)) (b (p + i)) s'
  -- every other page of every root resolves as before
  pub others : (r' x : ℕ) → mark s.tmarks r' ≡ 1 → x < 2 ^ 26 → Other r p n r' x → resolve s' r' x ≡ resolve s r' x
  pub roots : (t : ℕ) → (mark s.tmarks t ≡ 1) ↔ (mark s'.tmarks t ≡ 1)
  -- a frame that none of the pages has is as before, and so is each frame that was taken
  pub kept : (f : ℕ) → ((i : ℕ) → i < n → frame_no (resolve s' r (p + i)) ≡ pool_no f → ⊥) → FrameKept s f s'
  pub taken : (f : ℕ) → 0 < mark s.fmarks f → FrameKept s f s'
  -- there are as many frames, the free tables fall by exactly the missing number, and the free frames by one for each page
  pub pool : length s'.fmarks ≡ length s.fmarks
  pub tables : free_tables s ≡ missing s r p n + free_tables s'
  pub frames : free_frames s ≡ n + free_frames s'

-- s' is s once more, after pages p .. p + n - 1 of root r got fresh frames and gave them back; the tables that were taken stay, and a free frame can hold other bytes
pub record Back (s : Store) (r p n : ℕ) (s' : Store) : Type 0 where
  pub sized : Sized s'
  pub well_formed : WellFormed s'
  pub roots : (t : ℕ) → (mark s.tmarks t ≡ 1) ↔ (mark s'.tmarks t ≡ 1)
  -- every page of every root resolves as before
  pub pages : (r' x : ℕ) → mark s.tmarks r' ≡ 1 → x < 2 ^ 26 → resolve s' r' x ≡ resolve s r' x
  -- every frame has the mark that it had, and one that was taken has its bytes
  pub marks : (f : ℕ) → mark s'.fmarks f ≡ mark s.fmarks f
  pub bytes : (f : ℕ) → 0 < mark s.fmarks f → (k : ℕ) → k < 4096 → frame_byte s' f k ≡ frame_byte s f k
  -- as many frames are free
  pub frames : free_frames s' ≡ free_frames s
  pub tables : free_tables s ≡ missing s r p n + free_tables s'
