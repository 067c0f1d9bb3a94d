-- What holds after the tables of a root have been given back.
use Rattle.std.specs.Prelude.{◌≡◌, ℕ, ◌+◌, ◌/◌, ◌^◌, ◌<◌}
use Rattle.store.specs.Store.{Store, Sized, word, mark}
use Rattle.store.specs.WellFormed.{WellFormed}
use Rattle.store.specs.Count.{free_tables}
use Rattle.store.specs.Walk.{resolve}
use Rattle.store.specs.Owners.{Below}

-- s' is s without the tables of this root, which were v
pub record Freed (s : Store) (root v : ℕ) (s' : Store) : Type 0 where
  pub sized : Sized s'
  pub well_formed : WellFormed s'
  -- the root and the tables below it are free, and zero
  pub gone : mark s'.tmarks root ≡ 0
  pub free : (t : ℕ) → Below s root t → mark s'.tmarks t ≡ 0
  pub zero : (w : ℕ) → Below s root (w / 512) → word s'.words w ≡ 0
  -- every other table has the mark and the words that it had
  pub marks : (t : ℕ) → (Below s root t → ⊥) → mark s'.tmarks t ≡ mark s.tmarks t
  pub words : (w : ℕ) → (Below s root (w / 512) → ⊥) → word s'.words w ≡ word s.words w
  -- so every other root is still a root, and resolves every page as before
  pub roots : (r : ℕ) → mark s.tmarks r ≡ 1 → (r ≡ root → ⊥) → mark s'.tmarks r ≡ 1
  pub pages : (r x : ℕ) → mark s.tmarks r ≡ 1 → (r ≡ root → ⊥) → x < 2 ^ 26 → resolve s' r x ≡ resolve s r x
  -- frames keep their marks and their bytes
  pub fmarks : s'.fmarks ≡ s.fmarks
  pub bytes : s'.bytes ≡ s.bytes
  -- the free tables rise by exactly v
  pub tables : free_tables s' ≡ free_tables s + v
