-- The bytes of one frame are written over: these are the given ones, and every other byte is as it was. Assumes nothing.
use mathlib.Core.Path.{◌≡◌, sym, ap, ◌∙◌}
use mathlib.Core.Logic.{◌⊎◌, inl, inr}
use mathlib.Core.List.{List, ◌++◌}
use Prim.Native.Nat.{ℕ, ◌+◌, ◌-◌, ◌*◌, ◌≤◌, ◌<◌}
use native.Mathlib.Omega.{arith}
use lib.ListN.{length, get_or, take, drop, length-append, length-drop, get_or-append}
use lib.Seq.{length-take-le, get_or-append-add, get_or-take, get_or-drop}
use Rattle.fresh.specs.Fill.{framed}

module _ (bs : List ℕ) (f : ℕ) (b : List ℕ) (l : length b ≡ 4096) (h : 4096 * f + 4096 ≤ length bs) where
  front : length (take (4096 * f) bs) ≡ 4096 * f
  front = length-take-le (4096 * f) bs (omega arith)

  abbrev rest : List ℕ
  rest = drop 4096 (drop (4096 * f) bs)

  pub framed_length : length (framed bs f b) ≡ length bs
  unfolding framed
  framed_length =
      omega (arith, length-append (take (4096 * f) bs) (b ++ rest), length-append b rest, front, length-drop 4096 (drop (4096 * f) bs), length-drop (4096 * f) bs)

  -- byte i of the frame
  pub framed_here : (i : ℕ) → i < 4096 → get_or (framed bs f b) (4096 * f + i) 0 ≡ get_or b i 0
  unfolding framed
  framed_here i q =
      ap (λ (x : ℕ). get_or (take (4096 * f) bs ++ (b ++ rest)) (x + i) 0) (sym front) ∙ get_or-append-add (take (4096 * f) bs) (b ++ rest) i 0 ∙ get_or-append b rest 0 i (omega arith)

  -- a byte before it, and one after it
  pub framed_other : (k : ℕ) → (k < 4096 * f) ⊎ (4096 * f + 4096 ≤ k) → get_or (framed bs f b) k 0 ≡ get_or bs k 0
  unfolding framed
  framed_other k (inl q) = get_or-append (take (4096 * f) bs) (b ++ rest) 0 k (omega (arith, front)) ∙ get_or-take (4096 * f) bs k 0 q
  framed_other k (inr q) =
      let i : ℕ = k - (4096 * f + 4096) in
      let x : k ≡ length (take (4096 * f) bs) + (length b + i) = omega (arith, front) in
      let y : 4096 * f + (4096 + i) ≡ k = omega arith in
      ap (λ (z : ℕ). get_or (take (4096 * f) bs ++ (b ++ rest)) z 0) x
      ∙ get_or-append-add (take (4096 * f) bs) (b ++ rest) (length b + i) 0 ∙ get_or-append-add b rest i 0 ∙ get_or-drop 4096 (drop (4096 * f) bs) i 0 ∙ get_or-drop (4096 * f) bs (4096 + i) 0
      ∙ ap (λ (z : ℕ). get_or bs z 0) y
