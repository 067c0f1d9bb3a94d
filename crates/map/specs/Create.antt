-- `uvmcreate`: why it is refused, what it answers, and what holds afterwards.
use Rattle.std.specs.Prelude.{◌≡◌, ◌⊎◌, ℕ, suc, ◌^◌, ◌<◌, set, Result}
use Rattle.refusal.specs.declared.Refusal.{Refusal}
use Rattle.store.specs.Store.{Store, Sized, mark}
use Rattle.store.specs.WellFormed.{WellFormed}
use Rattle.store.specs.Count.{lowest, free_tables}
use Rattle.store.specs.Walk.{resolve}
use Rattle.store.specs.Outcome.{Outcome}

pub data CreateReason (s : Store) : ℕ → Type 0 where
  sizes : (Sized s → ⊥) → CreateReason s 1
  unformed : (WellFormed s → ⊥) → CreateReason s 2
  no_table : free_tables s ≡ 0 → CreateReason s 17

-- table t is a root
abbrev pub rooted : Store → ℕ → Store
rooted s t = record { words = s.words; tmarks = set s.tmarks t 1; bytes = s.bytes; fmarks = s.fmarks }

-- the answer is the root, which was the lowest free table
abbrev pub CreateDone : Store → ℕ → Store → Type 0
CreateDone s v s' = (v ≡ lowest s.tmarks) × (s' ≡ rooted s (lowest s.tmarks))

abbrev pub Create : Store → Result ℕ Refusal → Store → Type 0
Create s r s' = Outcome (CreateReason s) (CreateDone s) s r s'

-- root t of s' is new and has no page; the roots of s and their pages are as they were
pub record Created (s : Store) (t : ℕ) (s' : Store) : Type 0 where
  pub sized : Sized s'
  pub well_formed : WellFormed s'
  pub was_free : mark s.tmarks t ≡ 0
  pub is_root : mark s'.tmarks t ≡ 1
  pub empty : (p : ℕ) → p < 2 ^ 26 → resolve s' t p ≡ 0
  pub others : (r : ℕ) → mark s.tmarks r ≡ 1 → mark s'.tmarks r ≡ 1
  pub no_others : (r : ℕ) → mark s'.tmarks r ≡ 1 → (r ≡ t) ⊎ (mark s.tmarks r ≡ 1)
  pub as_before : (r p : ℕ) → mark s.tmarks r ≡ 1 → resolve s' r p ≡ resolve s r p
  pub taken : free_tables s ≡ suc (free_tables s')
