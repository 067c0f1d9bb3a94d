-- Two answers that meet one promise are equal. Assumes nothing.
use mathlib.Core.Path.{◌≡◌, refl, sym, ◌∙◌}
use Prim.Native.Nat.{ℕ}
use Rattle.std.specs.Prelude.{Result}
use Rattle.refusal.specs.declared.Refusal.{Refusal}
use Rattle.address.specs.Answer.{Said}
use Rattle.address.proofs.Unique.{one_result}
use Rattle.page_table_entry.specs.declared.PageTableEntry.{PageTableEntry}
use Rattle.page_table_entry.specs.Change.{WithBit}
use Rattle.page_table_entry.specs.Built.{entry_said, Named, Written}

one_entry : (s : Said) (a b : Result PageTableEntry Refusal) → entry_said a ≡ s → entry_said b ≡ s → a ≡ b
one_entry = one_result (λ e. e.0) (λ v. record { 0 = v }) (λ e. refl)

pub one_named : (pa : ℕ) (a b : Result PageTableEntry Refusal) → Named pa (entry_said a) → Named pa (entry_said b) → a ≡ b
one_named pa a b p q = one_entry _ a b p.whole q.whole

pub one_written : (pa perm : ℕ) (a b : Result PageTableEntry Refusal) → Written pa perm (entry_said a) → Written pa perm (entry_said b) → a ≡ b
one_written pa perm a b p q = one_entry _ a b p.whole q.whole

pub one_change : (k v e a b : ℕ) → WithBit k v e a → WithBit k v e b → a ≡ b
one_change k v e a b p q = p.whole ∙ sym q.whole
