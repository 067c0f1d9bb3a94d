-- The bytes of one frame go to another, byte by byte. Assumes nothing.
use mathlib.Core.Path.{◌≡◌, sym, ap, ◌∙◌}
use mathlib.Core.Logic.{◌⊎◌, inl, inr, by_cases}
use mathlib.Core.List.{List, ◌++◌, append_assoc}
use Prim.Native.Nat.{ℕ, ◌+◌, ◌-◌, ◌*◌, ◌≤◌, ◌<◌}
use native.Mathlib.Decide.{dec_lt}
use native.Mathlib.Numerals.{add-one}
use native.Mathlib.Omega.{arith}
use lib.ListN.{length, get_or, set, take, drop, length-drop, get_or-append}
use lib.Seq.{paste, paste-suc, length_paste_head, length-take-le, get_or-append-add, get_or-take, get_or-drop, drop-drop}
use Rattle.fresh.specs.Fill.{framed}

module _ (bs : List ℕ) (g f : ℕ) (hg : 4096 * g + 4096 ≤ length bs) (hf : 4096 * f + 4096 ≤ length bs) where
  -- the bytes from those of frame g on
  abbrev src : List ℕ
  src = drop (4096 * g) bs

  src_length : 4096 ≤ length src
  src_length = omega (arith, length-drop (4096 * g) bs)

  -- bs after the first i of them have gone to frame f
  abbrev sofar : ℕ → List ℕ
  sofar i = paste bs (4096 * f) src i

  module _ (i : ℕ) (h : i < 4096) where
    head : length (take (4096 * f) bs ++ take i src) ≡ 4096 * f + i
    head = length_paste_head bs (4096 * f) src i (omega arith) (omega (arith, src_length))

    -- a byte of frame g is still what it was
    here : (k : ℕ) → (k < 4096 * f) ⊎ (4096 * f + i ≤ k) → get_or (sofar i) k 0 ≡ get_or bs k 0
    here k (inl q) =
        get_or-append (take (4096 * f) bs ++ take i src) (drop (4096 * f + i) bs) 0 k (omega (arith, head))
        ∙ get_or-append (take (4096 * f) bs) (take i src) 0 k (omega (arith, length-take-le (4096 * f) bs (omega arith))) ∙ get_or-take (4096 * f) bs k 0 q
    here k (inr q) =
        let j : ℕ = k - (4096 * f + i) in
        let x : k ≡ length (take (4096 * f) bs ++ take i src) + j = omega (arith, head) in
        let y : 4096 * f + i + j ≡ k = omega arith in
        ap (λ (z : ℕ). get_or (sofar i) z 0) x ∙ get_or-append-add (take (4096 * f) bs ++ take i src) (drop (4096 * f + i) bs) j 0 ∙ get_or-drop (4096 * f + i) bs j 0
        ∙ ap (λ (z : ℕ). get_or bs z 0) y

    read : get_or (sofar i) (4096 * g + i) 0 ≡ get_or src i 0
    read = here (4096 * g + i) (by_cases (dec_lt g f) (λ l. inl (omega arith)) (λ l. inr (omega arith))) ∙ sym (get_or-drop (4096 * g) bs i 0)

    -- one byte more
    pub copy_more : (x : List ℕ) → x ≡ sofar i → set x (4096 * f + i) (get_or x (4096 * g + i) 0) ≡ sofar (i + 1)
    copy_more x e =
        ap (λ (y : List ℕ). set y (4096 * f + i) (get_or y (4096 * g + i) 0)) e ∙ ap (set (sofar i) (4096 * f + i)) read
        ∙ paste-suc bs (4096 * f) src i 0 (omega arith) (omega (arith, src_length)) ∙ ap sofar (sym (add-one i))

  -- all of them
  pub copied : (i : ℕ) → 4096 ≤ i → i ≤ 4096 → sofar i ≡ framed bs f (take 4096 src)
  unfolding framed
  copied i p q =
      let e : i ≡ 4096 = omega arith in
      ap sofar e ∙ append_assoc (take (4096 * f) bs) (take 4096 src) (drop (4096 * f + 4096) bs)
      ∙ ap (λ (y : List ℕ). take (4096 * f) bs ++ (take 4096 src ++ y)) (sym (drop-drop 4096 (4096 * f) bs))
