-- Demand 3: when `map` succeeds, and what holds of the store afterwards.
use Rattle.std.specs.Prelude.{◌≡◌, ◌↔◌, ℕ, ◌+◌, ◌*◌, ◌/◌, ◌^◌, ◌≤◌, ◌<◌, Ok}
use Rattle.page_table_entry.specs.Layout.{bit_v, flags, frame_number}
use Rattle.page_table_entry.specs.Change.{with_bit}
use Rattle.page_table_entry.specs.Built.{entry_of}
use Rattle.rounding.specs.Range.{first_page}
use Rattle.store.specs.Store.{Store, Sized, mark}
use Rattle.store.specs.WellFormed.{Outside, WellFormed}
use Rattle.store.specs.Count.{free_tables}
use Rattle.store.specs.Walk.{resolve}
use Rattle.walk.specs.Mapped.{Mapped, Other}
use Rattle.walk.specs.Missing.{missing}
use Rattle.map.specs.Numbers.{pages_of}
use Rattle.map.specs.Map.{Map}

-- Pages p .. p + n - 1 of root r are to be mapped to the frames from number `frame` on, with permissions q.

-- none of the refusals 1 to 10 is met; where there are no pages, p and frame can be any numbers
pub record Fit (s : Store) (r p n frame q : ℕ) : Type 0 where
  pub sized : Sized s
  pub well_formed : WellFormed s
  pub root : mark s.tmarks r ≡ 1
  pub pages : (i : ℕ) → i < n → p + i < 2 ^ 26  -- addresses below 2 ^ 38
  pub permissions : q ≤ 1023
  pub frames : (i : ℕ) → i < n → frame + i < 2 ^ 44  -- addresses below 2 ^ 56
  pub outside : (i : ℕ) → i < n → Outside (frame + i)

-- nor 14 or 17: no page of the range is mapped, and no more tables are missing than are free
pub record Room (s : Store) (r p n : ℕ) : Type 0 where
  pub unmapped : (i : ℕ) → i < n → Mapped s r (p + i) → ⊥
  pub tables : missing s r p n ≤ free_tables s

-- s' is s with these pages mapped
pub record Entered (s : Store) (r p n frame q : ℕ) (s' : Store) : Type 0 where
  pub sized : Sized s'
  pub well_formed : WellFormed s'
  -- page i resolves to frame i, with the permissions and V
  pub mapped : (i : ℕ) → i < n → Mapped s' r (p + i)
  pub framed : (i : ℕ) → i < n → frame_number (resolve s' r (p + i)) ≡ frame + i
  pub permitted : (i : ℕ) → i < n → flags (resolve s' r (p + i)) ≡ with_bit bit_v 1 q
  pub whole : (i : ℕ) → i < n → resolve s' r (p + i) ≡ entry_of (4096 * (frame + i)) q
  -- every other page of every root resolves as before
  pub others : (r' x : ℕ) → mark s.tmarks r' ≡ 1 → x < 2 ^ 26 → Other r p n r' x → resolve s' r' x ≡ resolve s r' x
  pub roots : (t : ℕ) → (mark s.tmarks t ≡ 1) ↔ (mark s'.tmarks t ≡ 1)
  pub bytes : s'.bytes ≡ s.bytes
  pub fmarks : s'.fmarks ≡ s.fmarks
  -- the free tables fall by exactly the missing number
  pub taken : free_tables s ≡ missing s r p n + free_tables s'
  pub none : n ≡ 0 → missing s r p n ≡ 0
  pub bound : 0 < n → missing s r p n ≤ (n + 510) / 512 + (n + 262142) / 262144 + 2

-- what is asked of a call that meets none of the refusals 1 to 10
pub record Kept (s : Store) (root va pa size perm : ℕ) : Type 0 where
  -- it succeeds exactly when no page of the range is mapped and the missing tables are no more than the free ones
  pub exactly : ((v : ℕ) × (s' : Store) × Map s root va pa size perm (Ok v) s') ↔ Room s root (first_page va) (pages_of va size)
  -- then the pages are mapped, and the answer is the number of tables taken
  pub entered : (v : ℕ) (s' : Store) → Map s root va pa size perm (Ok v) s' → Entered s root (first_page va) (pages_of va size) (pa / 4096) perm s'
  pub answer : (v : ℕ) (s' : Store) → Map s root va pa size perm (Ok v) s' → v ≡ missing s root (first_page va) (pages_of va size)

abbrev pub Demand3 : Store → ℕ → ℕ → ℕ → ℕ → ℕ → Type 0
Demand3 s root va pa size perm = Fit s root (first_page va) (pages_of va size) (pa / 4096) perm → Kept s root va pa size perm
