-- How the bytes of the input become lines, and what each line does to the store.
use Rattle.std.specs.Prelude.{◌≡◌, List, [], ◌∷◌, ◌++◌, ℕ, take}
use Rattle.store.specs.Store.{Store}
use Rattle.program.specs.Answers.{Printed}

-- the line is answered with some text
pub record Told (s : Store) (line : List ℕ) (s' : Store) : Type 0 where
  pub text : List ℕ
  pub printed : Printed s line text s'

-- one byte: a line end has the line answered and begins the next; any other byte goes to the line, of which `room` bytes are kept
pub data Step (room : ℕ) (s : Store) (line : List ℕ) (b : ℕ) (s' : Store) (line' : List ℕ) : Type 0 where
  ended : b ≡ 10 → Told s line s' → line' ≡ [] → Step room s line b s' line'
  grown : (b ≡ 10 → ⊥) → s' ≡ s → line' ≡ take room (line ++ (b ∷ [])) → Step room s line b s' line'

-- bytes, one after the other
abbrev pub Fed : ℕ → Store → List ℕ → List ℕ → Store → List ℕ → Type 0
Fed room s line [] s' line' = (s' ≡ s) × (line' ≡ line)
Fed room s line (b ∷ bs) s' line' = (t : Store) × (l : List ℕ) × Step room s line b t l × Fed room t l bs s' line'
