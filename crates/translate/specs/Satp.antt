-- `as_satp`: the number that the satp register takes for a root. It changes nothing.
use Rattle.std.specs.Prelude.{◌≡◌, ℕ, Result}
use Rattle.refusal.specs.declared.Refusal.{Refusal}
use Rattle.store.specs.Store.{Store}
use Rattle.store.specs.Outcome.{Outcome}
use Rattle.well_formed.specs.Root.{RootReason}
use Rattle.translate.specs.Sv39.{satp_of}

abbrev pub SatpDone : Store → ℕ → ℕ → Store → Type 0
SatpDone s root v s' = (v ≡ satp_of root) × (s' ≡ s)

-- it is refused with 1, 2 and 3 alone
abbrev pub Satp : Store → ℕ → Result ℕ Refusal → Type 0
Satp s root r = Outcome (RootReason s root) (SatpDone s root) s r s
