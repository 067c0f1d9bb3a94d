-- The check: refused only with 1, and otherwise yes exactly for a well-formed store. It changes nothing.
use Rattle.std.specs.Prelude.{◌≡◌, ◌⊎◌, ℕ, Result, Ok, Err}
use Rattle.refusal.specs.declared.Refusal.{Refusal}
use Rattle.refusal.specs.Number.{number_of}
use Rattle.store.specs.Store.{Store, Sized}
use Rattle.store.specs.WellFormed.{WellFormed}
use Rattle.store.specs.Outcome.{Outcome}

pub data CheckReason (s : Store) : ℕ → Type 0 where
  sizes : (Sized s → ⊥) → CheckReason s 1

-- the answer's value: 1 for yes, 0 for no
abbrev pub YesNo : ℕ → Type 0 → Type 0
YesNo v P = ((v ≡ 1) × P) ⊎ ((v ≡ 0) × (P → ⊥))

abbrev pub CheckDone : Store → ℕ → Store → Type 0
CheckDone s v s' = YesNo v (WellFormed s) × (s' ≡ s)

abbrev pub Check : Store → Result ℕ Refusal → Type 0
Check s r = Outcome (CheckReason s) (CheckDone s) s r s

-- what every call on a store asks first: the number 1 or 2 by which it is refused, or that it is well formed
abbrev pub Judged : Store → Result Unit Refusal → Type 0
Judged s (Err r) = ((number_of r ≡ 1) × (Sized s → ⊥)) ⊎ ((number_of r ≡ 2) × Sized s × (WellFormed s → ⊥))
Judged s (Ok u) = Sized s × WellFormed s
