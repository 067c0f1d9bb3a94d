-- What holds after a call made of parts: a root has gone, with its pages and its tables.
use Rattle.std.specs.Prelude.{◌≡◌, ℕ, ◌+◌, ◌^◌, ◌<◌, length}
use Rattle.store.specs.Store.{Store, Sized, mark, frame_no, pool_no}
use Rattle.store.specs.WellFormed.{WellFormed}
use Rattle.store.specs.Count.{free_tables, free_frames}
use Rattle.store.specs.Walk.{resolve}
use Rattle.store.specs.Owners.{Below}
use Rattle.unmap.specs.Gone.{pool_pages}
use Rattle.release.specs.Free.{tables_of}

-- s' is s without this root, whose tables were v
pub record RootGone (s : Store) (root v : ℕ) (s' : Store) : Type 0 where
  pub sized : Sized s'
  pub well_formed : WellFormed s'
  -- the root and the tables below it are free, and every other table has the mark that it had
  pub gone : mark s'.tmarks root ≡ 0
  pub free : (t : ℕ) → Below s root t → mark s'.tmarks t ≡ 0
  pub marks : (t : ℕ) → (Below s root t → ⊥) → mark s'.tmarks t ≡ mark s.tmarks t
  -- so every other root is still a root, and resolves every page as before
  pub roots : (r : ℕ) → mark s.tmarks r ≡ 1 → (r ≡ root → ⊥) → mark s'.tmarks r ≡ 1
  pub pages : (r x : ℕ) → mark s.tmarks r ≡ 1 → (r ≡ root → ⊥) → x < 2 ^ 26 → resolve s' r x ≡ resolve s r x
  -- a pool frame that a page of the root had is free, every other frame has the mark that it had, and all keep their bytes
  pub freed : (p f : ℕ) → p < 2 ^ 26 → f < length s.fmarks → frame_no (resolve s root p) ≡ pool_no f → mark s'.fmarks f ≡ 0
  pub kept : (f : ℕ) → ((p : ℕ) → p < 2 ^ 26 → frame_no (resolve s root p) ≡ pool_no f → ⊥) → mark s'.fmarks f ≡ mark s.fmarks f
  pub bytes : s'.bytes ≡ s.bytes
  -- the free tables rise by exactly the root's tables, and the free frames by exactly the pages of the root that have a pool frame
  pub count : v ≡ tables_of s root
  pub tables : free_tables s' ≡ free_tables s + v
  pub frames : free_frames s' ≡ free_frames s + pool_pages s root 0 (2 ^ 26)
