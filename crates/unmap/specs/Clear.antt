-- `uvm_clear`: why it is refused, and the store afterwards.
use Rattle.std.specs.Prelude.{◌≡◌, ℕ, ◌/◌, ◌^◌, ◌≤◌, Result}
use Rattle.refusal.specs.declared.Refusal.{Refusal}
use Rattle.page_table_entry.specs.Layout.{bit_u}
use Rattle.page_table_entry.specs.Change.{with_bit}
use Rattle.store.specs.Store.{Store}
use Rattle.store.specs.Walk.{slot_word, slot, entry_at, resolve}
use Rattle.store.specs.Outcome.{Outcome}
use Rattle.well_formed.specs.Root.{RootReason}
use Rattle.enter.specs.Enter.{stored}

-- 11 is given only when the page's block has no level-0 table
pub data ClearReason (s : Store) (root va : ℕ) : ℕ → Type 0 where
  at_root : {k : ℕ} → RootReason s root k → ClearReason s root va k
  too_high : 2 ^ 38 ≤ va → ClearReason s root va 6
  no_table : entry_at s root 1 (va / 4096 / 512) ≡ 0 → ClearReason s root va 11

-- the page's word has U clear, and a zero word stays zero; the answer names no value, and it is 0
abbrev pub ClearDone : Store → ℕ → ℕ → ℕ → Store → Type 0
ClearDone s root va v s' = (v ≡ 0) × (s' ≡ stored s (slot (slot_word s.words) root 2 (va / 4096)) (with_bit bit_u 0 (resolve s root (va / 4096))))

abbrev pub Clear : Store → ℕ → ℕ → Result ℕ Refusal → Store → Type 0
Clear s root va r s' = Outcome (ClearReason s root va) (ClearDone s root va) s r s'
