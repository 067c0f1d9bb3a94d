-- What an answer says on paper: its number, which is 0 unless it is a refusal, and its values.
use Rattle.std.specs.Prelude.{List, [], ◌∷◌, Bool, true, false, ℕ, ◌-◌, ◌^◌, ltb, leb, Result, Ok, Err}
use Rattle.refusal.specs.declared.Refusal.{Refusal}
use Rattle.refusal.specs.Number.{number_of}
use Rattle.address.specs.Page.{index}
use Rattle.address.specs.declared.kinds.VirtualAddress.{VirtualAddress}
use Rattle.address.specs.declared.kinds.PhysicalAddress.{PhysicalAddress}

pub record Said : Type 0 where
  pub number : ℕ
  pub values : List ℕ

abbrev pub answered : ℕ → Said
answered v = record { number = 0; values = v ∷ [] }

abbrev pub refused : ℕ → Said
refused n = record { number = n; values = [] }

-- what is said where a test holds, and where not
abbrev pub pick : Bool → Said → Said → Said
pick true a b = a
pick false a b = b

-- what a result says whose value v has the number f v
unfoldable pub said : {A : Type 0} → (A → ℕ) → Result A Refusal → Said
said f (Ok v) = answered (f v)
said f (Err r) = refused (number_of r)

-- the value, where 64 bits hold it, and else refusal 6
unfoldable pub within64 : ℕ → Said
within64 v = pick (ltb v (2 ^ 64)) (answered v) (refused 6)

-- a less b, where that is 0 or more, and else refusal 6
unfoldable pub at_least0 : ℕ → ℕ → Said
at_least0 a b = pick (leb b a) (answered (a - b)) (refused 6)

-- the index of va at a level up to 2, and else refusal 6
unfoldable pub index_at : ℕ → ℕ → Said
index_at level va = pick (leb level 2) (answered (index level va)) (refused 6)

-- of a number, of a virtual address, of a physical address
abbrev pub number_said : Result ℕ Refusal → Said
number_said r = said (λ n. n) r

abbrev pub virtual_said : Result VirtualAddress Refusal → Said
virtual_said r = said (λ a. a.0) r

abbrev pub physical_said : Result PhysicalAddress Refusal → Said
physical_said r = said (λ a. a.0) r
