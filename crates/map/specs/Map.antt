-- `map`: what it answers, and the store afterwards.
use Rattle.std.specs.Prelude.{◌≡◌, ℕ, Result}
use Rattle.refusal.specs.declared.Refusal.{Refusal}
use Rattle.page_table_entry.specs.Built.{entry_of}
use Rattle.rounding.specs.Range.{first_page}
use Rattle.store.specs.Store.{Store}
use Rattle.store.specs.Outcome.{Outcome}
use Rattle.walk.specs.Missing.{missing}
use Rattle.map.specs.Numbers.{pages_of}
use Rattle.enter.specs.Enter.{enter_pages}
use Rattle.map.specs.Reasons.{MapReason}

-- the tables taken, and the pages of the range entered with the frames from pa on
abbrev pub MapDone : Store → ℕ → ℕ → ℕ → ℕ → ℕ → ℕ → Store → Type 0
MapDone s root va pa size perm v s' =
    (v ≡ missing s root (first_page va) (pages_of va size)) × (s' ≡ enter_pages s root (first_page va) (pages_of va size) (entry_of pa perm))

abbrev pub Map : Store → ℕ → ℕ → ℕ → ℕ → ℕ → Result ℕ Refusal → Store → Type 0
Map s root va pa size perm r s' = Outcome (MapReason s root va pa size perm) (MapDone s root va pa size perm) s r s'
