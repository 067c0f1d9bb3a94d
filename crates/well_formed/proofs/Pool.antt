-- Counting pool frames: given W5, each level-0 word of the held window has its pool frame's mark exactly where there are as many
-- such words as frames in use. Assumes nothing.
use mathlib.Core.Path.{◌≡◌, sym, ap, ◌∙◌}
use mathlib.Core.Logic.{⊎_elim}
use mathlib.Core.List.{List}
use Prim.Native.Nat.{ℕ, ◌+◌, ◌-◌, ◌*◌, ◌/◌, ◌^◌, ◌≤◌, ◌<◌}
use native.Mathlib.Decide.{ℕ_discrete, dec_lt}
use native.Mathlib.Omega.{arith}
use lib.ListN.{length}
use Rattle.store.specs.Sum.{sum, same}
use Rattle.store.specs.Store.{word, mark, frame_no, pool_no}
use Rattle.store.specs.Level.{level}
use Rattle.store.specs.WellFormed.{Held, Named}
use Rattle.store.proofs.Sums.{same_yes, same_no, same_times, same_none, sum_cong, sum_pinch, sum_some, sum_only, marks_swap}
use Rattle.store.proofs.Scans.{in_range}
use Rattle.store.proofs.Taken.{taken, taken_some, taken_pos}
use Rattle.well_formed.specs.Scan.{FrameOk, in_window, leaf_windowed}

module _ (ws ms fs : List ℕ) (w5 : (f : ℕ) → f < length fs → FrameOk ws ms fs f) (few : length fs ≤ 4096) where
  -- how many frames have the mark that names word w
  owned : ℕ → ℕ
  owned w = sum (λ f. same (mark fs f) (w + 2) * taken (mark fs f)) (length fs)

  named : (f : ℕ) → f < length fs → (mark fs f ≡ 0 → ⊥) → Named ws ms fs f
  named f l n = ⊎_elim (λ z. absurd (n z)) (λ q. q) (w5 f l)

  -- the word of a mark in use is one of the store
  pub there : (f : ℕ) → f < length fs → (mark fs f ≡ 0 → ⊥) → (2 ≤ mark fs f) × (mark fs f < length ws + 2)
  there f l n =
      let q = named f l n in
      let i : mark fs f - 2 < length ws = in_range ws (mark fs f - 2) (λ z. omega (arith, q.names)) in
      (q.from_two, omega (arith, q.from_two))

  all_owned : sum owned (length ws) ≡ sum (λ f. taken (mark fs f)) (length fs)
  unfolding owned
  all_owned = marks_swap (mark fs) (λ f. taken (mark fs f)) (length fs) (length ws) (λ f l p. there f l (taken_pos (mark fs f) p))

  -- the word w of a mark: at level 0, with that frame, in the held window
  at_word : (f w : ℕ) → f < length fs → mark fs f ≡ w + 2 → (level ms (w / 512) ≡ 0) × (frame_no (word ws w) ≡ pool_no f)
  at_word f w l e =
      let q = named f l (λ z. omega arith) in
      let m : mark fs f - 2 ≡ w = omega arith in
      (ap (λ (k : ℕ). level ms (k / 512)) (sym m) ∙ q.level, ap (λ (k : ℕ). frame_no (word ws k)) (sym m) ∙ q.names)

  counted : (f w : ℕ) → f < length fs → mark fs f ≡ w + 2 → leaf_windowed ws ms w ≡ 1
  counted f w l e =
      let q = at_word f w l e in
      same_times (level ms (w / 512)) 0 (in_window (word ws w)) q.0 ∙ same_yes (word ws w / 2 ^ 27) 8 (omega (arith, q.1))

  -- a word has one frame of its mark at most
  only : (f w : ℕ) → f < length fs → mark fs f ≡ w + 2 → owned w ≡ 1
  unfolding owned
  only f w l e =
      sum_only (λ g. same (mark fs g) (w + 2) * taken (mark fs g)) (length fs) f l
      (λ g lg n. same_none (mark fs g) (w + 2) (taken (mark fs g)) (λ eg. n (omega (arith, at_word f w l e, at_word g w lg eg))))
      ∙ same_times (mark fs f) (w + 2) (taken (mark fs f)) e ∙ taken_some (mark fs f) (λ z. omega arith)

  -- where a word is owned at all, a frame has its mark
  owner : (w : ℕ) → 0 < owned w → (f : ℕ) × (f < length fs) × (mark fs f ≡ w + 2)
  unfolding owned
  owner w h =
      let s = sum_some (λ f. same (mark fs f) (w + 2) * taken (mark fs f)) (length fs) h in
      (s.0, s.1, go s.0 s.2 (ℕ_discrete (mark fs s.0) (w + 2)))
    where
      go : (f : ℕ) → 0 < same (mark fs f) (w + 2) * taken (mark fs f) → Dec (mark fs f ≡ w + 2) → mark fs f ≡ w + 2
      go f p (yes e) = e
      go f p (no n) = absurd (omega (arith, same_none (mark fs f) (w + 2) (taken (mark fs f)) n))

  -- so a word is counted at least as often as it is owned
  below : (w : ℕ) → owned w ≤ leaf_windowed ws ms w
  below w = go (dec_lt 0 (owned w))
    where
      go : Dec (0 < owned w) → owned w ≤ leaf_windowed ws ms w
      go (no n) = omega arith
      go (yes h) = let o = owner w h in omega (arith, only o.0 w o.1 o.2, counted o.0 w o.1 o.2)

  -- equal counts: each level-0 word of the held window is that of a pool frame
  pub all_held : sum (leaf_windowed ws ms) (length ws) ≡ sum (λ f. taken (mark fs f)) (length fs)
      → (w : ℕ) → w < length ws → level ms (w / 512) ≡ 0 → in_window (word ws w) ≡ 1 → Held fs (frame_no (word ws w)) w
  all_held e w l z i =
      let same_count : owned w ≡ leaf_windowed ws ms w = sum_pinch owned (leaf_windowed ws ms) (length ws) (λ k _. below k) (all_owned ∙ sym e) w l in
      let one : leaf_windowed ws ms w ≡ 1 = same_times (level ms (w / 512)) 0 (in_window (word ws w)) z ∙ i in
      let o = owner w (omega arith) in
      record { frame = o.0; there = o.1; number = (at_word o.0 w o.1 o.2).1; mark = o.2 }

  -- and where each is, the counts are equal
  pub counts_equal : ((w : ℕ) → w < length ws → level ms (w / 512) ≡ 0 → in_window (word ws w) ≡ 1 → Held fs (frame_no (word ws w)) w)
      → sum (leaf_windowed ws ms) (length ws) ≡ sum (λ f. taken (mark fs f)) (length fs)
  counts_equal h = sum_cong (leaf_windowed ws ms) owned (length ws) equal ∙ all_owned
    where
      equal : (w : ℕ) → w < length ws → leaf_windowed ws ms w ≡ owned w
      equal w l = go (ℕ_discrete (level ms (w / 512)) 0) (ℕ_discrete (word ws w / 2 ^ 27) 8)
        where
          zero_case : leaf_windowed ws ms w ≡ 0 → leaf_windowed ws ms w ≡ owned w
          zero_case z = omega (arith, below w)

          go : Dec (level ms (w / 512) ≡ 0) → Dec (word ws w / 2 ^ 27 ≡ 8) → leaf_windowed ws ms w ≡ owned w
          go (no n) d = zero_case (same_none (level ms (w / 512)) 0 (in_window (word ws w)) n)
          go (yes z) (no n) = zero_case (same_times (level ms (w / 512)) 0 (in_window (word ws w)) z ∙ same_no (word ws w / 2 ^ 27) 8 n)
          go (yes z) (yes i) =
              let o = h w l z (same_yes (word ws w / 2 ^ 27) 8 i) in
              counted o.frame w o.there o.mark ∙ sym (only o.frame w o.there o.mark)
