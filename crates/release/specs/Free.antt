-- `free`: why it is refused, what it answers, and the store afterwards.
use Rattle.std.specs.Prelude.{◌≡◌, Bool, true, false, cond, List, [], ◌∷◌, ℕ, zero, suc, ◌/◌, ◌^◌, ◌<◌, eqb, ltb, length, Result}
use Rattle.refusal.specs.declared.Refusal.{Refusal}
use Rattle.store.specs.Sum.{sum}
use Rattle.store.specs.Store.{Store, mark}
use Rattle.store.specs.Level.{home}
use Rattle.store.specs.Outcome.{Outcome}
use Rattle.well_formed.specs.Root.{RootReason, RootReady}
use Rattle.walk.specs.Mapped.{Mapped}

-- 1, 2, 3; 18: a page of the root is mapped
pub data FreeReason (s : Store) (root : ℕ) : ℕ → Type 0 where
  at_root : {k : ℕ} → RootReason s root k → FreeReason s root k
  mapped : (p : ℕ) × (p < 2 ^ 26) × Mapped s root p → FreeReason s root 18

-- what holds where none of them applies
pub record FreeReady (s : Store) (root : ℕ) : Type 0 where
  pub at_root : RootReady s root
  pub unmapped : (p : ℕ) × (p < 2 ^ 26) × Mapped s root p → ⊥

-- where k gives the mark of each table: table t belongs to table r, looking at no more than n tables. It is r, or its mark names a
-- word of a table that belongs to r
unfoldable pub belongs : (ℕ → ℕ) → ℕ → ℕ → ℕ → Bool
belongs k zero r t = false
belongs k (suc n) r t = cond (eqb t r) true (cond (ltb (k t) 2) false (belongs k n r (home (k t))))

-- three tables are enough, since a level is 2, 1 or 0
abbrev pub of_root : Store → ℕ → ℕ → Bool
of_root s r t = belongs (mark s.tmarks) 3 r t

-- a list whose first element has number i, with 0 at the numbers that p says
unfoldable pub wiped : (ℕ → Bool) → ℕ → List ℕ → List ℕ
wiped p i [] = []
wiped p i (x ∷ l) = cond (p i) 0 x ∷ wiped p (suc i) l

-- the tables that p says are given back: their words and their marks are 0
abbrev pub wiped_words : (ℕ → Bool) → List ℕ → List ℕ
wiped_words p ws = wiped (λ w. p (w / 512)) 0 ws

abbrev pub wiped_marks : (ℕ → Bool) → List ℕ → List ℕ
wiped_marks p ms = wiped p 0 ms

-- each table of the root, the root included, is given back
unfoldable pub released : Store → ℕ → Store
released s r = record {
  words = wiped_words (of_root s r) s.words;
  tmarks = wiped_marks (of_root s r) s.tmarks;
  bytes = s.bytes;
  fmarks = s.fmarks;
}

-- how many of the numbers below n are those that p says
abbrev pub many : (ℕ → Bool) → ℕ → ℕ
many p n = sum (λ t. cond (p t) 1 0) n

-- how many tables the root has, itself included
abbrev pub tables_of : Store → ℕ → ℕ
tables_of s r = many (of_root s r) (length s.tmarks)

abbrev pub FreeDone : Store → ℕ → ℕ → Store → Type 0
FreeDone s root v s' = (v ≡ tables_of s root) × (s' ≡ released s root)

abbrev pub Free : Store → ℕ → Result ℕ Refusal → Store → Type 0
Free s root r s' = Outcome (FreeReason s root) (FreeDone s root) s r s'
