-- Two answers that say the same on paper are equal, so a contract that gives what is said gives the answer. Assumes nothing.
use mathlib.Core.Path.{◌≡◌, refl, sym, ap, ◌∙◌}
use mathlib.Core.List.{List, [], ◌∷◌}
use Prim.Native.Nat.{ℕ}
use Rattle.std.specs.Prelude.{Result, Ok, Err}
use Rattle.refusal.specs.declared.Refusal.{Refusal}
use Rattle.refusal.proofs.Numbers.{refusal_of, read_back}
use Rattle.address.specs.declared.kinds.VirtualAddress.{VirtualAddress}
use Rattle.address.specs.declared.kinds.PhysicalAddress.{PhysicalAddress}
use Rattle.address.specs.Answer.{Said, said, number_said, virtual_said, physical_said}

-- the law for every kind of answer: where what is said can be read back, two that say the same s are one
pub one_answer : {A : Type 0} (said : A → Said) (back : Said → A) → ((a : A) → back (said a) ≡ a)
    → (s : Said) (a b : A) → said a ≡ s → said b ≡ s → a ≡ b
one_answer said back reads s a b p q = sym (reads a) ∙ ap back (p ∙ sym q) ∙ reads b

-- reading back a result with one value or none
abbrev pub back_from : {A : Type 0} → (ℕ → A) → ℕ → List ℕ → Result A Refusal
back_from back n [] = Err (refusal_of n)
back_from back n (v ∷ vs) = Ok (back v)

-- the same for every kind of value that its number tells
pub one_result : {A : Type 0} (f : A → ℕ) (back : ℕ → A) → ((v : A) → back (f v) ≡ v)
    → (s : Said) (a b : Result A Refusal) → said f a ≡ s → said f b ≡ s → a ≡ b
unfolding said
one_result {A} f back inverse = one_answer (said f) (λ s. back_from back s.number s.values) reads
  where
    reads : (a : Result A Refusal) → back_from back (said f a).number (said f a).values ≡ a
    reads (Ok v) = ap Ok (inverse v)
    reads (Err r) = ap Err (read_back r)

pub one_number : (s : Said) (a b : Result ℕ Refusal) → number_said a ≡ s → number_said b ≡ s → a ≡ b
one_number = one_result (λ n. n) (λ n. n) (λ n. refl)

pub one_virtual : (s : Said) (a b : Result VirtualAddress Refusal) → virtual_said a ≡ s → virtual_said b ≡ s → a ≡ b
one_virtual = one_result (λ a. a.0) (λ v. record { 0 = v }) (λ a. refl)

pub one_physical : (s : Said) (a b : Result PhysicalAddress Refusal) → physical_said a ≡ s → physical_said b ≡ s → a ≡ b
one_physical = one_result (λ a. a.0) (λ v. record { 0 = v }) (λ a. refl)
