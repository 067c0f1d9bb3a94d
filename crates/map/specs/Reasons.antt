-- Why `map` is refused, in the numbers of document 01.
use Rattle.std.specs.Prelude.{ℕ, ◌≤◌, ◌<◌}
use Rattle.rounding.specs.Range.{first_page, end_page}
use Rattle.store.specs.Store.{Store}
use Rattle.store.specs.Count.{free_tables}
use Rattle.well_formed.specs.Root.{RootReason, RootReady}
use Rattle.walk.specs.Mapped.{Mapped}
use Rattle.walk.specs.Missing.{missing}
use Rattle.map.specs.Numbers.{pages_of, NumberReason, NumbersReady}

pub data MapReason (s : Store) (root va pa size perm : ℕ) : ℕ → Type 0 where
  at_root : {k : ℕ} → RootReason s root k → MapReason s root va pa size perm k
  numbers : {k : ℕ} → NumberReason va pa size perm k → MapReason s root va pa size perm k
  taken : (p : ℕ) → first_page va ≤ p → p < end_page va size → Mapped s root p → MapReason s root va pa size perm 14
  too_few : free_tables s < missing s root (first_page va) (pages_of va size) → MapReason s root va pa size perm 17

-- what holds where none of them applies
pub record MapReady (s : Store) (root va pa size perm : ℕ) : Type 0 where
  pub at_root : RootReady s root
  pub numbers : NumbersReady va pa size perm
  pub unmapped : (p : ℕ) → first_page va ≤ p → p < end_page va size → Mapped s root p → ⊥
  pub enough : missing s root (first_page va) (pages_of va size) ≤ free_tables s
