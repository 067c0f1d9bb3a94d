-- Set-up: refused only with 1, and otherwise zeros in all four slices.
use Rattle.std.specs.Prelude.{◌≡◌, ℕ, length, replicate, Result}
use Rattle.refusal.specs.declared.Refusal.{Refusal}
use Rattle.store.specs.Store.{Store, Sized}
use Rattle.store.specs.Outcome.{Outcome}

pub data SetUpReason (s : Store) : ℕ → Type 0 where
  sizes : (Sized s → ⊥) → SetUpReason s 1

-- the slices of s, filled with zeros
abbrev pub fresh : Store → Store
fresh s =
    record {
      words = replicate (length s.words) 0;
      tmarks = replicate (length s.tmarks) 0;
      bytes = replicate (length s.bytes) 0;
      fmarks = replicate (length s.fmarks) 0;
    }

-- the answer's value is 0
abbrev pub SetUpDone : Store → ℕ → Store → Type 0
SetUpDone s v s' = (v ≡ 0) × (s' ≡ fresh s)

abbrev pub SetUp : Store → Result ℕ Refusal → Store → Type 0
SetUp s r s' = Outcome (SetUpReason s) (SetUpDone s) s r s'
