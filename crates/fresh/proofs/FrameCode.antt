-- What the code of one frame does to words, marks and bytes, as the definitions say it of a store. Assumes nothing.
use mathlib.Core.Path.{◌≡◌, ap, ◌∙◌}
use mathlib.Core.List.{List}
use Prim.Native.Nat.{ℕ, ◌+◌, ◌-◌, ◌*◌, ◌≤◌}
use native.Mathlib.Omega.{arith}
use lib.ListN.{length, set, drop, length-drop}
use lib.Seq.{length-take-le}
use borrow.Rule.Slice.PartMut.{mid_of, put_mid}
use Rattle.store.specs.Store.{Store, store_of}
use Rattle.store.specs.Count.{lowest}
use Rattle.store.specs.Walk.{slot_word, slot}
use Rattle.enter.specs.Enter.{put_slot, tabled, Becomes}
use Rattle.fresh.specs.Fill.{pool_entry, framed, filled}
use Rattle.fresh.specs.Fresh.{fresh_page, FrameTaken, FrameEntered}

-- ---- the tables of a page are hung, and then its slot and a frame get each other

module _ (ws ms fs : List ℕ) (r p q : ℕ) (ws₀ ms₀ : List ℕ) (m : ℕ) (h : Becomes ws ms (λ s. tabled s r p) ws₀ ms₀) (e : m ≡ slot (slot_word ws₀) r 2 p) where
  pub frame_entered : (f : ℕ) (ws' fs' : List ℕ) → FrameTaken ws₀ fs m q f ws' fs' → FrameEntered ws ms fs r p q f ws' ms₀ fs'
  unfolding fresh_page filled
  frame_entered f ws' fs' t = record {
    frame = t.frame;
    store = λ bs b.
        let k : ws' ≡ put_slot ws₀ (slot (slot_word ws₀) r 2 p) (pool_entry (lowest fs) q) =
        t.words ∙ ap (λ (x : ℕ). put_slot ws₀ x (pool_entry f q)) e ∙ ap (λ (x : ℕ). put_slot ws₀ (slot (slot_word ws₀) r 2 p) (pool_entry x q)) t.frame in
        let n : fs' ≡ set fs (lowest fs) (slot (slot_word ws₀) r 2 p) = t.marks ∙ ap (set fs f) e ∙ ap (λ (x : ℕ). set fs x (slot (slot_word ws₀) r 2 p)) t.frame in
        (λ i. store_of (k i) ms₀ (framed bs (t.frame i) b) (n i)) ∙ ap (λ (s : Store). filled s (slot (slot_word s.words) r 2 p) q b) (h bs fs);
  }

-- ---- the bytes of frame f, lent as a part

module _ (bs : List ℕ) (f : ℕ) where
  pub put_frame : (x b : List ℕ) → x ≡ b → put_mid (4096 * f) (4096 * f + 4096 - 4096 * f) bs x ≡ framed bs f b
  unfolding framed
  put_frame x b e =
      let k : 4096 * f + 4096 - 4096 * f ≡ 4096 = omega arith in
      ap (λ (y : List ℕ). put_mid (4096 * f) (4096 * f + 4096 - 4096 * f) bs y) e ∙ ap (λ (n : ℕ). put_mid (4096 * f) n bs b) k

  pub frame_length : 4096 * f + 4096 ≤ length bs → length (mid_of (4096 * f) (4096 * f + 4096 - 4096 * f) bs) ≡ 4096
  frame_length h =
      let k : 4096 * f + 4096 - 4096 * f ≡ 4096 = omega arith in
      ap (λ (n : ℕ). length (mid_of (4096 * f) n bs)) k ∙ length-take-le 4096 (drop (4096 * f) bs) (omega (arith, length-drop (4096 * f) bs))
