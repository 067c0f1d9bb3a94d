-- Pages that get fresh frames: why they may not, and what giving them makes of a store, page by page.
use Rattle.std.specs.Prelude.{◌≡◌, List, [], ℕ, zero, suc, ◌+◌, ◌^◌, ◌≤◌, ◌<◌, length, set}
use Rattle.store.specs.Store.{Store, store_of}
use Rattle.store.specs.Count.{lowest, free_tables, free_frames}
use Rattle.store.specs.Walk.{slot_word, slot}
use Rattle.walk.specs.Mapped.{Mapped}
use Rattle.walk.specs.Missing.{missing}
use Rattle.enter.specs.Enter.{put_slot, tabled, Hangable}
use Rattle.well_formed.specs.Root.{Asked}
use Rattle.fresh.specs.Fill.{pool_entry, framed, filled}

-- Pages p .. p + n - 1 of root r.

-- 14: a page is mapped already; 16: more frames are needed than are free; 17: more tables are needed than are free
pub data FreshReason (s : Store) (r p n : ℕ) : ℕ → Type 0 where
  taken : (i : ℕ) → i < n → Mapped s r (p + i) → FreshReason s r p n 14
  no_frames : free_frames s < n → FreshReason s r p n 16
  no_tables : free_tables s < missing s r p n → FreshReason s r p n 17

-- what holds where none of them applies
pub record FreshReady (s : Store) (r p n : ℕ) : Type 0 where
  pub unmapped : (i : ℕ) → i < n → Mapped s r (p + i) → ⊥
  pub frames : n ≤ free_frames s
  pub tables : missing s r p n ≤ free_tables s

-- page p gets the lowest free frame with the flags q, which then holds b: its tables are hung, then its slot is filled
unfoldable pub fresh_page : Store → ℕ → ℕ → ℕ → List ℕ → Store
fresh_page s r p q b = filled (tabled s r p) (slot (slot_word (tabled s r p).words) r 2 p) q b

-- the pages get their frames upward; page x has the flags q x and the bytes b x
unfoldable pub fresh_pages : Store → ℕ → ℕ → ℕ → (ℕ → ℕ) → (ℕ → List ℕ) → Store
fresh_pages s r p zero q b = s
fresh_pages s r p (suc n) q b = fresh_pages (fresh_page s r p (q p) (b p)) r (suc p) n q b

pub record CanFresh (s : Store) (r p n : ℕ) : Type 0 where
  pub asked : Asked s r p n
  pub ready : FreshReady s r p n

-- what entering a frame asks of words and marks: tables that can be hung, a slot that a mark can hold, and no free frame below a
pub record FrameFits (ws ms fs : List ℕ) (r p a : ℕ) : Type 0 where
  pub hangable : Hangable ws ms r p
  pub fits : slot (slot_word (tabled (store_of ws ms [] []) r p).words) r 2 p < 2 ^ 32
  pub frames : length fs ≤ 4096
  pub from : a ≤ lowest fs

-- words and marks have become those of page p with frame f, whatever bytes this is then given
pub record FrameEntered (ws ms fs : List ℕ) (r p q f : ℕ) (ws' ms' fs' : List ℕ) : Type 0 where
  pub frame : f ≡ lowest fs
  pub store : (bs b : List ℕ) → store_of ws' ms' (framed bs f b) fs' ≡ fresh_page (store_of ws ms bs fs) r p q b

-- slot m and the lowest free frame f have got each other
pub record FrameTaken (ws fs : List ℕ) (m q f : ℕ) (ws' fs' : List ℕ) : Type 0 where
  pub frame : f ≡ lowest fs
  pub words : ws' ≡ put_slot ws m (pool_entry f q)
  pub marks : fs' ≡ set fs f m
