-- The bytes of a page that has a pool frame are those of the frame. Assumes nothing.
use mathlib.Core.Path.{◌≡◌, sym, ap, ap₂, ◌∙◌}
use mathlib.Core.List.{List}
use Prim.Native.Nat.{ℕ, ◌+◌, ◌-◌, ◌*◌, ◌/◌, ◌%◌, ◌≤◌, ◌<◌}
use native.Mathlib.Omega.{arith}
use lib.ListN.{length, get_or, take, drop, length-drop}
use lib.Seq.{length-take-le, get_or-take, get_or-drop, ext_get_or}
use Rattle.store.specs.Store.{Store, frame_no, pool_no}
use Rattle.store.specs.Walk.{resolve}
use Rattle.fresh.specs.Grown.{frame_byte}
use Rattle.copies.specs.Bytes.{byte_at}
use Rattle.child.specs.Child.{page_bytes}
use Rattle.copies.proofs.BytesLaws.{bytes_length, bytes_get}

module _ (s : Store) (r p f : ℕ) (e : frame_no (resolve s r p) ≡ pool_no f) where
  -- byte k of page p is byte k of its frame
  pub page_byte : (k : ℕ) → k < 4096 → byte_at s r (4096 * p + k) ≡ frame_byte s f k
  page_byte k h =
      let a : (4096 * p + k) / 4096 ≡ p = omega arith in
      let b : (4096 * p + k) % 4096 ≡ k = omega arith in
      let c : frame_no (resolve s r p) - 0x11_0000 ≡ f = omega arith in
      ap₂ (λ (x y : ℕ). get_or s.bytes (4096 * (frame_no (resolve s r x) - 0x11_0000) + y) 0) a b ∙ ap (λ (x : ℕ). get_or s.bytes (4096 * x + k) 0) c

  -- where bs has the frame's bytes in the same place, they are the page's
  pub page_bytes_lem : (bs : List ℕ) → 4096 * f + 4096 ≤ length bs → ((k : ℕ) → k < 4096 → get_or bs (4096 * f + k) 0 ≡ frame_byte s f k)
      → take 4096 (drop (4096 * f) bs) ≡ page_bytes s r p
  page_bytes_lem bs h same =
      let l : length (take 4096 (drop (4096 * f) bs)) ≡ 4096 = length-take-le 4096 (drop (4096 * f) bs) (omega (arith, length-drop (4096 * f) bs)) in
      ext_get_or 0 (take 4096 (drop (4096 * f) bs)) (page_bytes s r p) (l ∙ sym (bytes_length s r (4096 * p) 4096))
      (λ k q. let x : k < 4096 = omega (arith, l) in
      get_or-take 4096 (drop (4096 * f) bs) k 0 x ∙ get_or-drop (4096 * f) bs k 0 ∙ same k x ∙ sym (page_byte k x) ∙ sym (bytes_get s r (4096 * p) 4096 k x))
