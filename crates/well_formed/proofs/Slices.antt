-- The words from a up to e as a part by themselves. Assumes nothing.
use mathlib.Core.Path.{◌≡◌, sym, subst, ap, ◌∙◌}
use mathlib.Core.List.{List}
use Prim.Native.Nat.{ℕ, ◌+◌, ◌-◌, ◌≤◌, ◌<◌}
use native.Mathlib.Omega.{arith}
use lib.ListN.{length}
use Rattle.std.proofs.Common.{slice_range}
use Rattle.std.proofs.lemmas.List.Edits.{length-between, get_or-between}
use Rattle.store.specs.Store.{word}
use Rattle.well_formed.specs.Scan.{Each}

module _ (ws : List ℕ) (a e : ℕ) (l : a ≤ e) (h : e ≤ length ws) where
  pub part_length : length (slice_range ws a e) ≡ e - a
  part_length = length-between ws a e h

  pub part_word : (k : ℕ) → k < e - a → word (slice_range ws a e) k ≡ word ws (a + k)
  part_word k p = get_or-between ws a e k 0 (omega arith)

  -- a claim on each word of the part is one on each of these words
  module _ (P : ℕ → Type 0) where
    pub part_to : Each (λ k. P (word (slice_range ws a e) k)) 0 (length (slice_range ws a e)) → Each (λ k. P (word ws k)) a e
    part_to all k p q =
        let i : a + (k - a) ≡ k = omega arith in
        subst P (part_word (k - a) (omega arith) ∙ ap (word ws) i) (all (k - a) (omega arith) (omega (arith, part_length)))

    pub part_back : Each (λ k. P (word ws k)) a e → Each (λ k. P (word (slice_range ws a e) k)) 0 (length (slice_range ws a e))
    part_back all k p q = subst P (sym (part_word k (omega (arith, part_length)))) (all (a + k) (omega arith) (omega (arith, part_length)))
