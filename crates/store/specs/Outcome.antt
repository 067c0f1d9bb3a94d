-- How a call answers: with the smallest reason that applies and the store as it was, or with none applying and the work done.
use Rattle.std.specs.Prelude.{◌≡◌, ℕ, ◌<◌, Result, Ok, Err}
use Rattle.refusal.specs.declared.Refusal.{Refusal}
use Rattle.refusal.specs.Number.{number_of}

-- reason n applies, and no smaller one
pub record Smallest (R : ℕ → Type 0) (n : ℕ) : Type 0 where
  pub applies : R n
  pub least : (k : ℕ) → k < n → R k → ⊥

abbrev pub NoReason : (ℕ → Type 0) → Type 0
NoReason R = (k : ℕ) → R k → ⊥

-- R are the reasons to refuse, D says which value and which store are the work done on s; for a call that lends the store for reading
-- and writes to a buffer, s and s' are the buffer
abbrev pub Outcome : {S : Type 0} → (R : ℕ → Type 0) → (D : ℕ → S → Type 0) → S → Result ℕ Refusal → S → Type 0
Outcome R D s (Err r) s' = Smallest R (number_of r) × (s' ≡ s)
Outcome R D s (Ok v) s' = NoReason R × D v s'

-- what a judge of a call answers: the smallest reason, or what holds where there is none
abbrev pub Judges : (R : ℕ → Type 0) → (F : Type 0) → Result Unit Refusal → Type 0
Judges R F (Ok u) = F
Judges R F (Err r) = Smallest R (number_of r)
