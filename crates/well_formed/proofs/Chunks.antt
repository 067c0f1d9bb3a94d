-- The parts of 64 words that the scan of a level-0 table goes over. Assumes nothing.
use mathlib.Core.Path.{◌≡◌, sym, subst, ap, ◌∙◌}
use mathlib.Core.List.{List, []}
use Prim.Native.Nat.{ℕ, zero, suc, ◌+◌, ◌*◌, ◌/◌, ◌≤◌, ◌<◌, zero-le}
use native.Mathlib.Omega.{arith}
use lib.ListN.{length, get_or, drop}
use Rattle.std.specs.Simd.{first_chunks}
use Rattle.std.proofs.lemmas.List.{length-take-le, length-drop, get_or-take, get_or-drop}
use Rattle.store.specs.Store.{word}
use Rattle.well_formed.specs.Scan.{Shape, Shapes, Over, in_window, windowed}
use Rattle.well_formed.proofs.Parts.{each_to, each_back, each_part, over_to, part_more}

-- part i of c has 64 words, and its word k is word 64 * i + k of the whole
chunk_length : (ws : List ℕ) (c i : ℕ) → i < c → 64 * c ≤ length ws → length (get_or (first_chunks 64 c ws) i []) ≡ 64
chunk_length ws zero i l h = absurd (omega arith)
chunk_length ws (suc c) zero l h = length-take-le 64 ws (omega arith)
chunk_length ws (suc c) (suc i) l h = chunk_length (drop 64 ws) c i (omega arith) (omega (arith, length-drop 64 ws))

chunk_word : (ws : List ℕ) (c i k : ℕ) → i < c → k < 64 → word (get_or (first_chunks 64 c ws) i []) k ≡ word ws (64 * i + k)
chunk_word ws zero i k l h = absurd (omega arith)
chunk_word ws (suc c) zero k l h = get_or-take 64 ws k 0 h ∙ ap (word ws) (omega arith)
chunk_word ws (suc c) (suc i) k l h = chunk_word (drop 64 ws) c i k (omega arith) h ∙ get_or-drop 64 ws (64 * i + k) 0 ∙ ap (word ws) (omega arith)

module _ (ws : List ℕ) (parts : List (List ℕ)) (front : parts ≡ first_chunks 64 (length ws / 64) ws) (i : ℕ) (l : i < length ws / 64) where
  abbrev part : List ℕ
  part = get_or parts i []

  size : length part ≡ 64
  size = ap (λ (ps : List (List ℕ)). length (get_or ps i [])) front ∙ chunk_length ws (length ws / 64) i l (omega arith)

  at : (k : ℕ) → k < 64 → word part k ≡ word ws (64 * i + k)
  at k h = ap (λ (ps : List (List ℕ)). word (get_or ps i []) k) front ∙ chunk_word ws (length ws / 64) i k l h

  -- a part without the shapes, and one with them
  pub chunk_not : (Shapes part 0 (length part) → ⊥) → Shapes ws 0 (length ws) → ⊥
  chunk_not never all =
      never (subst (Shapes part 0) (sym size)
      (each_back (λ k. Shape (word part k)) (λ k. Shape (word ws k)) (64 * i) 64 (λ k h. subst Shape (sym (at k h)))
      (each_part _ _ _ _ _ zero-le (omega arith) all)))

  pub chunk_more : (n m : ℕ) → Shapes ws 0 (64 * i) × Over (windowed ws) 0 (64 * i) n → Shapes part 0 (length part) × Over (windowed part) 0 (length part) m
      → Shapes ws 0 (64 * (i + 1)) × Over (windowed ws) 0 (64 * (i + 1)) (n + m)
  chunk_more n m p q =
      part_more _ _ _ _ _ _ _ (omega arith) (omega arith) p (
        each_to (λ k. Shape (word part k)) (λ k. Shape (word ws k)) (64 * i) 64 (λ k h. subst Shape (at k h)) (subst (Shapes part 0) size q.0),
        over_to (windowed part) (windowed ws) (64 * i) 64 m (λ k h. ap in_window (at k h)) (subst (λ (k : ℕ). Over (windowed part) 0 k m) size q.1),
      )
