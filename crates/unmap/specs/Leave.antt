-- Pages that leave a root: why they may not, and what taking them out makes of a store, page by page.
use Rattle.std.specs.Prelude.{◌≡◌, Bool, false, cond, List, ℕ, zero, suc, ◌+◌, ◌-◌, ◌<◌, leb, length, set}
use Rattle.page_table_entry.specs.Layout.{flags}
use Rattle.store.specs.Store.{Store, store_of, frame_no, pool_no}
use Rattle.store.specs.Walk.{slot_word, slot, resolve}
use Rattle.well_formed.specs.Root.{Asked}
use Rattle.walk.specs.Mapped.{Mapped}
use Rattle.enter.specs.Enter.{put_slot}

-- Pages p .. p + n - 1 of root r; freeing says whether their pool frames are given back.

-- entry e names a frame of the pool
pub record PoolFrame (s : Store) (e : ℕ) : Type 0 where
  pub frame : ℕ
  pub there : frame < length s.fmarks
  pub number : frame_no e ≡ pool_no frame

-- without freeing, one of the pages has a pool frame
abbrev pub MeetsPool : Store → ℕ → ℕ → ℕ → Bool → Type 0
MeetsPool s r p n freeing = (freeing ≡ false) × (i : ℕ) × (i < n) × PoolFrame s (resolve s r (p + i))

-- 10: without freeing, a pool frame is met; 11: a page is not mapped; 13: flags exactly 1 are met
pub data LeaveReason (s : Store) (r p n : ℕ) (freeing : Bool) : ℕ → Type 0 where
  pooled : MeetsPool s r p n freeing → LeaveReason s r p n freeing 10
  unmapped : (i : ℕ) → i < n → (Mapped s r (p + i) → ⊥) → LeaveReason s r p n freeing 11
  bare : (i : ℕ) → i < n → flags (resolve s r (p + i)) ≡ 1 → LeaveReason s r p n freeing 13

-- what holds where none of them applies
pub record LeaveReady (s : Store) (r p n : ℕ) (freeing : Bool) : Type 0 where
  pub foreign : MeetsPool s r p n freeing → ⊥
  pub mapped : (i : ℕ) → i < n → Mapped s r (p + i)
  pub full : (i : ℕ) → i < n → flags (resolve s r (p + i)) ≡ 1 → ⊥

-- the frame marks after entry e has gone: a pool frame's mark is 0; a frame outside the pool has no mark
unfoldable pub given_back : List ℕ → ℕ → List ℕ
given_back fs e = cond (leb 0x11_0000 (frame_no e)) (set fs (frame_no e - 0x11_0000) 0) fs

-- the word in slot m becomes 0; with freeing, its pool frame is given back and keeps its bytes
unfoldable pub leave_slot : Store → ℕ → Bool → Store
leave_slot s m freeing = record {
  words = put_slot s.words m 0;
  tmarks = s.tmarks;
  bytes = s.bytes;
  fmarks = cond freeing (given_back s.fmarks (slot_word s.words m)) s.fmarks;
}

abbrev pub leave_page : Store → ℕ → ℕ → Bool → Store
leave_page s r p freeing = leave_slot s (slot (slot_word s.words) r 2 p) freeing

-- the pages leave upward
unfoldable pub leave_pages : Store → ℕ → ℕ → ℕ → Bool → Store
leave_pages s r p zero freeing = s
leave_pages s r p (suc n) freeing = leave_pages (leave_page s r p freeing) r (suc p) n freeing

-- where pages may be taken out
pub record CanLeave (s : Store) (r p n : ℕ) (freeing : Bool) : Type 0 where
  pub asked : Asked s r p n
  pub ready : LeaveReady s r p n freeing

-- n slots from slot m on, upward
unfoldable pub leave_run : Store → ℕ → ℕ → Bool → Store
leave_run s m zero freeing = s
leave_run s m (suc n) freeing = leave_run (leave_slot s m freeing) (suc m) n freeing

-- words ws and frame marks fs have become ws' and fs' as f makes them of a store, whatever else it holds
abbrev pub FramesBecome : List ℕ → List ℕ → (Store → Store) → List ℕ → List ℕ → Type 0
FramesBecome ws fs f ws' fs' = (ms bs : List ℕ) → store_of ws' ms bs fs' ≡ f (store_of ws ms bs fs)
