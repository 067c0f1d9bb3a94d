-- The loop that gives pages frames of zeros: what the code of each page asks, and what holds after it. Assumes nothing.
use mathlib.Core.Path.{◌≡◌, refl, sym, ap, ◌∙◌, subst₂}
use mathlib.Core.List.{List}
use Prim.Native.Nat.{ℕ, suc, ◌+◌, ◌-◌, ◌*◌, ◌≤◌, ◌<◌}
use native.Mathlib.Numerals.{add-one}
use native.Mathlib.Omega.{arith}
use lib.ListN.{length, replicate, length-replicate}
use borrow.Rule.Slice.PartMut.{mid_of, put_mid}
use Rattle.store.specs.Store.{Store, store_of}
use Rattle.store.specs.Count.{lowest}
use Rattle.fresh.specs.Fresh.{FrameEntered}
use Rattle.grow.specs.Grow.{zeroed}
use Rattle.fresh.proofs.FrameCode.{put_frame, frame_length}
use Rattle.fresh.proofs.GrowLoop.{Growing, there, next}

-- i of n pages have their frames, and the store so far has the words ws, the marks ms and fs and the bytes bs
module _ (s₀ : Store) (r p n : ℕ) (ws ms bs fs : List ℕ) (i a : ℕ) (g : Growing s₀ r p n (λ _. 31) (λ _. zeroed) (store_of ws ms bs fs) i a) (h : i < n) where
  pub frame_in : (f : ℕ) → f ≡ lowest fs → (4096 * f + 4096 ≤ length bs) × (f < 4096)
  frame_in f e =
      let t = there s₀ r p n (λ _. 31) (λ _. zeroed) (store_of ws ms bs fs) i a g h in
      (omega (arith, t, g.ready.sized.bytes), omega (arith, t, g.ready.sized.frames_to))

  pub after : (f : ℕ) (ws' ms' fs' x : List ℕ) → FrameEntered ws ms fs r (p + i) 31 f ws' ms' fs'
      → x ≡ replicate (length (mid_of (4096 * f) (4096 * f + 4096 - 4096 * f) bs)) 0
      → Growing s₀ r p n (λ _. 31) (λ _. zeroed) (store_of ws' ms' (put_mid (4096 * f) (4096 * f + 4096 - 4096 * f) bs x) fs') (i + 1) (f + 1)
  after f ws' ms' fs' x en e =
      let z : x ≡ zeroed = e ∙ ap (λ (k : ℕ). replicate k 0) (frame_length bs f (frame_in f en.frame).0) in
      let k : suc (lowest fs) ≡ f + 1 = ap suc (sym en.frame) ∙ sym (add-one f) in
      subst₂ (λ (s : Store) (y : ℕ). Growing s₀ r p n (λ _. 31) (λ _. zeroed) s (i + 1) y)
      (sym (ap (λ (y : List ℕ). store_of ws' ms' y fs') (put_frame bs f x zeroed z) ∙ en.store bs zeroed)) k
      (next s₀ r p n (λ _. 31) (λ _. zeroed) (store_of ws ms bs fs) i a g h refl (omega arith) (length-replicate {A = ℕ} 4096 0))
