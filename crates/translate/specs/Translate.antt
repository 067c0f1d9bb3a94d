-- `pgt_translate`: why it is refused, and what it answers. It changes nothing.
use Rattle.std.specs.Prelude.{◌≡◌, ℕ, ◌/◌, ◌^◌, ◌≤◌, Result}
use Rattle.refusal.specs.declared.Refusal.{Refusal}
use Rattle.address.specs.Field.{bit}
use Rattle.page_table_entry.specs.Layout.{bit_u, frame_of}
use Rattle.store.specs.Store.{Store}
use Rattle.store.specs.Walk.{resolve}
use Rattle.store.specs.Outcome.{Outcome}
use Rattle.well_formed.specs.Root.{RootReason}
use Rattle.walk.specs.Mapped.{Mapped}

-- the numbers of document 01, for a root and the page of va
pub data TranslateReason (s : Store) (root va : ℕ) : ℕ → Type 0 where
  at_root : {k : ℕ} → RootReason s root k → TranslateReason s root va k
  too_high : 2 ^ 38 ≤ va → TranslateReason s root va 6
  unmapped : (Mapped s root (va / 4096) → ⊥) → TranslateReason s root va 11
  no_user : (bit bit_u (resolve s root (va / 4096)) ≡ 1 → ⊥) → TranslateReason s root va 12

-- the address of the page's frame, without the offset
abbrev pub TranslateDone : Store → ℕ → ℕ → ℕ → Store → Type 0
TranslateDone s root va v s' = (v ≡ frame_of (resolve s root (va / 4096))) × (s' ≡ s)

abbrev pub Translate : Store → ℕ → ℕ → Result ℕ Refusal → Type 0
Translate s root va r = Outcome (TranslateReason s root va) (TranslateDone s root va) s r s
