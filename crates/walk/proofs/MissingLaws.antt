-- The tables that a range of pages lacks: how many at most, and how many under a fresh root. Assumes nothing.
use mathlib.Core.Path.{◌≡◌, refl}
use Prim.Native.Nat.{ℕ, zero, suc, ◌+◌, ◌-◌, ◌/◌, ◌≤◌, ◌<◌}
use native.Mathlib.Omega.{arith}
use Rattle.store.specs.Store.{Store}
use Rattle.store.specs.Walk.{slot_word, slot, entry_at}
use Rattle.walk.specs.Missing.{span, entry_in, missing_in, missing}
use Rattle.walk.proofs.Spans.{span_le, span_all}
use Rattle.walk.proofs.Groups.{under_none}

-- what the code says from the words is said of the store
pub entry_in_lem : (s : Store) (r d x : ℕ) → entry_in s.words r d x ≡ entry_at s r d x
unfolding entry_at
entry_in_lem s r d x = refl

pub missing_in_lem : (s : Store) (r p n : ℕ) → missing_in s.words r p n ≡ missing s r p n
unfolding missing
missing_in_lem s r p n = refl

pub missing_none : (s : Store) (r p : ℕ) → missing s r p 0 ≡ 0
unfolding missing missing_in
missing_none s r p = refl

-- the definition, by what the walk finds
pub missing_is : (s : Store) (r p n : ℕ)
    → missing s r p (suc n) ≡ span (entry_at s r 0) (p / 512 / 512) ((p + n) / 512 / 512) + span (entry_at s r 1) (p / 512) ((p + n) / 512)
unfolding missing missing_in entry_at
missing_is s r p n = refl

-- a table for each group and each block at most, and one of each for pages that do not begin with one
pub missing_le : (s : Store) (r p n : ℕ) → 0 < n → missing s r p n ≤ (n + 510) / 512 + (n + 262142) / 262144 + 2
missing_le s r p zero h = absurd (omega arith)
missing_le s r p (suc n) h =
    let g = span_le (entry_at s r 0) (p / 512 / 512) ((p + n) / 512 / 512) in
    let b = span_le (entry_at s r 1) (p / 512) ((p + n) / 512) in
    omega (arith, missing_is s r p n)

-- ---- a root that has no entry for the groups of the range, as a fresh root

module _ (s : Store) (r p n : ℕ) (fresh : (i : ℕ) → p / 512 / 512 ≤ i → i ≤ (p + n) / 512 / 512 → entry_at s r 0 i ≡ 0) where
  -- there is none for its blocks either
  fresh_block : (b : ℕ) → p / 512 ≤ b → b ≤ (p + n) / 512 → entry_at s r 1 b ≡ 0
  unfolding entry_at slot
  fresh_block b l h = under_none s.words (slot_word s.words (slot (slot_word s.words) r 0 (b / 512))) b (fresh (b / 512) (omega arith) (omega arith))

  -- every group and every block of the range lacks its table
  pub missing_fresh : missing s r p (suc n) ≡ suc ((p + n) / 512 / 512) - p / 512 / 512 + (suc ((p + n) / 512) - p / 512)
  missing_fresh =
      omega (
        arith,
        missing_is s r p n,
        span_all (entry_at s r 0) (p / 512 / 512) ((p + n) / 512 / 512) fresh,
        span_all (entry_at s r 1) (p / 512) ((p + n) / 512) fresh_block,
      )
