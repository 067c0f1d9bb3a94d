-- What holds after pages have left a root, and after a page has lost U.
use Rattle.std.specs.Prelude.{◌≡◌, Bool, true, cond, ℕ, zero, suc, ◌+◌, ◌-◌, ◌^◌, ◌<◌, leb, ltb, length}
use Rattle.page_table_entry.specs.Layout.{bit_u}
use Rattle.page_table_entry.specs.Change.{with_bit}
use Rattle.store.specs.Store.{Store, Sized, mark, frame_no, pool_no}
use Rattle.store.specs.WellFormed.{WellFormed}
use Rattle.store.specs.Count.{free_frames}
use Rattle.store.specs.Walk.{resolve}
use Rattle.walk.specs.Mapped.{Other}

-- 1 where entry e names one of F pool frames, else 0
unfoldable pub in_pool : ℕ → ℕ → ℕ
in_pool F e = cond (leb 0x11_0000 (frame_no e)) (cond (ltb (frame_no e - 0x11_0000) F) 1 0) 0

-- how many of the pages p .. p + n - 1 of root r have a pool frame
unfoldable pub pool_pages : Store → ℕ → ℕ → ℕ → ℕ
pool_pages s r p zero = 0
pool_pages s r p (suc n) = in_pool (length s.fmarks) (resolve s r p) + pool_pages s r (suc p) n

-- s' is s without these pages
pub record Gone (s : Store) (r p n : ℕ) (freeing : Bool) (s' : Store) : Type 0 where
  pub sized : Sized s'
  pub well_formed : WellFormed s'
  pub gone : (i : ℕ) → i < n → resolve s' r (p + i) ≡ 0
  -- every other page of every root resolves as before
  pub others : (r' x : ℕ) → mark s.tmarks r' ≡ 1 → x < 2 ^ 26 → Other r p n r' x → resolve s' r' x ≡ resolve s r' x
  -- tables stay, and frames keep their bytes
  pub tmarks : s'.tmarks ≡ s.tmarks
  pub bytes : s'.bytes ≡ s.bytes
  -- a frame's mark is as before, but with freeing that of a frame which one of the pages had, and that is free
  pub kept : (f : ℕ) → (freeing ≡ true → (i : ℕ) → i < n → frame_no (resolve s r (p + i)) ≡ pool_no f → ⊥) → mark s'.fmarks f ≡ mark s.fmarks f
  pub freed : freeing ≡ true → (i f : ℕ) → i < n → f < length s.fmarks → frame_no (resolve s r (p + i)) ≡ pool_no f → mark s'.fmarks f ≡ 0
  -- so the free frames rise by exactly the number of these pages that have a pool frame
  pub frames : free_frames s' ≡ free_frames s + cond freeing (pool_pages s r p n) 0

-- s' is s where page p of root r has no U; a page that is not mapped stays so
pub record Cleared (s : Store) (r p : ℕ) (s' : Store) : Type 0 where
  pub sized : Sized s'
  pub well_formed : WellFormed s'
  pub cleared : resolve s' r p ≡ with_bit bit_u 0 (resolve s r p)
  pub others : (r' x : ℕ) → mark s.tmarks r' ≡ 1 → x < 2 ^ 26 → (r' ≡ r → x ≡ p → ⊥) → resolve s' r' x ≡ resolve s r' x
  pub tmarks : s'.tmarks ≡ s.tmarks
  pub bytes : s'.bytes ≡ s.bytes
  pub fmarks : s'.fmarks ≡ s.fmarks
