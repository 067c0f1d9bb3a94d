-- What the code of a slot and of a run does to words and frame marks, as the definitions say it of a store. Assumes nothing.
use mathlib.Core.Path.{◌≡◌, sym, ap, ap₂, ◌∙◌}
use mathlib.Core.Bool.{Bool, cond}
use mathlib.Core.List.{List, ◌++◌}
use Prim.Native.Nat.{ℕ, suc, ◌+◌, ◌-◌, ◌≤◌, ◌<◌}
use native.Mathlib.Omega.{arith}
use lib.ListN.{length, set, get_or, take}
use lib.Seq.{length-take-le}
use borrow.Rule.Slice.PartMut.{mid_of, post_of, put_mid, mid_len, put_same}
use Rattle.std.proofs.lemmas.List.{set-append_left, set-append_right, get_or_append_left, get_or-append_right}
use borrow.Author.Tests.{le-leb, lt-leb}
use Rattle.store.specs.Store.{Store, store_of, frame_no}
use Rattle.store.specs.Walk.{slot_word}
use Rattle.store.proofs.Tree.{slot_word_lem}
use Rattle.enter.proofs.Slots.{put_in}
use Rattle.unmap.specs.Leave.{given_back, leave_slot, leave_run, FramesBecome}

-- a frame below the pool, and frame f after its start
pub given_none : (fs : List ℕ) (e : ℕ) → (0x11_0000 ≤ frame_no e → ⊥) → fs ≡ given_back fs e
unfolding given_back
given_none fs e n = rw (lt-leb 0x11_0000 (frame_no e) (omega arith))

pub given_one : (fs : List ℕ) (e f : ℕ) → (0x11_0000 ≤ frame_no e) × (f ≡ frame_no e - 0x11_0000) → set fs f 0 ≡ given_back fs e
unfolding given_back
given_one fs e f (h, q) = rw (le-leb 0x11_0000 (frame_no e) h, q)

-- one slot: its word was e, and the frame marks become fs'
slot_left : (ws fs : List ℕ) (m e : ℕ) (freeing : Bool) (fs' : List ℕ) → 2 ≤ m → e ≡ get_or ws (m - 2) 0 → fs' ≡ cond freeing (given_back fs e) fs → FramesBecome ws fs (λ s. leave_slot s m freeing) (set ws (m - 2) 0) fs'
unfolding leave_slot
slot_left ws fs m e freeing fs' h q k ms bs =
    let word : e ≡ slot_word ws m = q ∙ sym (slot_word_lem ws m h) in
    (λ i. store_of (put_in ws m 0 h i) ms bs ((k ∙ ap (λ (x : ℕ). cond freeing (given_back fs x) fs) word) i))

-- ---- the words of n slots from slot m on are lent as a part, and the whole with ys in its place

abbrev pub lent : List ℕ → ℕ → ℕ → List ℕ
lent ws m n = mid_of (m - 2) (m - 2 + n - (m - 2)) ws

abbrev pub whole : List ℕ → ℕ → ℕ → List ℕ → List ℕ
whole ws m n ys = put_mid (m - 2) (m - 2 + n - (m - 2)) ws ys

-- i of n slots are done: the part is ys so far, and the frame marks are fs
abbrev pub Going : List ℕ → List ℕ → ℕ → ℕ → Bool → List ℕ → List ℕ → ℕ → Type 0
Going ws₀ fs₀ m n freeing ys fs i = (ms bs : List ℕ) → leave_run (store_of ws₀ ms bs fs₀) m n freeing ≡ leave_run (store_of (whole ws₀ m n ys) ms bs fs) (m + i) (n - i) freeing

module _ (ws₀ fs₀ : List ℕ) (m n : ℕ) (freeing : Bool) (room : (2 ≤ m) × (m + n ≤ 2 + length ws₀)) where
  lent_length : length (lent ws₀ m n) ≡ n
  lent_length = omega (arith, mid_len (m - 2) (m - 2 + n) ws₀ (omega (arith, room)))

  pub run_start : Going ws₀ fs₀ m n freeing (lent ws₀ m n) fs₀ 0
  run_start ms bs =
      let a : m ≡ m + 0 = omega arith in
      let b : n ≡ n - 0 = omega arith in
      ap₂ (λ (x y : ℕ). leave_run (store_of ws₀ ms bs fs₀) x y freeing) a b
      ∙ ap (λ (ws : List ℕ). leave_run (store_of ws ms bs fs₀) (m + 0) (n - 0) freeing) (sym (put_same (m - 2) (m - 2 + n - (m - 2)) ws₀))

  module _ (ys fs : List ℕ) (i : ℕ) (g : Going ws₀ fs₀ m n freeing ys fs i) where
    module _ (j : i < length (lent ws₀ m n)) (l : length ys ≡ length (lent ws₀ m n)) where
      abbrev rest : List ℕ
      rest = post_of (m - 2) (m - 2 + n - (m - 2)) ws₀

      before : length (take (m - 2) ws₀) ≡ m - 2
      before = length-take-le (m - 2) ws₀ (omega (arith, room))

      within : i < length ys
      within = omega (arith, j, l)

      at : m + i - 2 - (m - 2) ≡ i
      at = omega (arith, room)

      far : m - 2 ≤ m + i - 2
      far = omega arith

      -- a write in the part, and a read
      wrote : set (whole ws₀ m n ys) (m + i - 2) 0 ≡ whole ws₀ m n (set ys i 0)
      wrote =
          set-append_right (take (m - 2) ws₀) (ys ++ rest) (m - 2) (m + i - 2) 0 before far ∙ ap (λ (k : ℕ). take (m - 2) ws₀ ++ set (ys ++ rest) k 0) at
          ∙ ap (λ (x : List ℕ). take (m - 2) ws₀ ++ x) (set-append_left ys rest i 0 within)

      read : get_or (whole ws₀ m n ys) (m + i - 2) 0 ≡ get_or ys i 0
      read =
          get_or-append_right (take (m - 2) ws₀) (ys ++ rest) (m - 2) (m + i - 2) 0 before far ∙ ap (λ (k : ℕ). get_or (ys ++ rest) k 0) at
          ∙ get_or_append_left ys rest 0 i within

      pub run_next : (fs' : List ℕ) → fs' ≡ cond freeing (given_back fs (get_or ys i 0)) fs → Going ws₀ fs₀ m n freeing (set ys i 0) fs' (i + 1)
      unfolding leave_run
      run_next fs' e ms bs =
          let two : 2 ≤ m + i = omega (arith, room) in
          let k : n - i ≡ suc (n - (i + 1)) = omega (arith, j, lent_length) in
          let a : suc (m + i) ≡ m + (i + 1) = omega arith in
          let went = slot_left (whole ws₀ m n ys) fs (m + i) (get_or ys i 0) freeing fs' two (sym read) e ms bs in
          g ms bs ∙ ap (λ (x : ℕ). leave_run (store_of (whole ws₀ m n ys) ms bs fs) (m + i) x freeing) k
          ∙ ap (λ (x : Store). leave_run x (suc (m + i)) (n - (i + 1)) freeing) (sym went)
          ∙ ap₂ (λ (x : ℕ) (ws : List ℕ). leave_run (store_of ws ms bs fs') x (n - (i + 1)) freeing) a wrote

    pub run_done : length (lent ws₀ m n) ≤ i → FramesBecome ws₀ fs₀ (λ s. leave_run s m n freeing) (whole ws₀ m n ys) fs
    unfolding leave_run
    run_done l ms bs =
        let k : n - i ≡ 0 = omega (arith, l, lent_length) in
        sym (g ms bs ∙ ap (λ (x : ℕ). leave_run (store_of (whole ws₀ m n ys) ms bs fs) (m + i) x freeing) k)
