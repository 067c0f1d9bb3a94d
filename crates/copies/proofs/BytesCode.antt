-- A turn of the loops that read and write bytes, a page's part at a time. Assumes nothing.
use mathlib.Core.Path.{◌≡◌, refl, sym, ap, ap₂, ◌∙◌}
use mathlib.Core.Logic.{inl}
use mathlib.Core.List.{List, ◌++◌, append_assoc}
use Prim.Native.Nat.{ℕ, ◌+◌, ◌-◌, ◌%◌, ◌≤◌, ◌<◌, min}
use native.Mathlib.Omega.{arith}
use lib.ListN.{length, take, drop, length-drop, take-append-drop}
use lib.Seq.{length-take-le, take_at, drop_at, drop-length, drop-drop, sets, sets-eq}
use borrow.Rule.Slice.PartMut.{mid_of, put_mid, Post-is}
use Rattle.store.specs.Store.{Store}
use Rattle.copies.specs.Bytes.{place_at, bytes_at, written}
use Rattle.copies.specs.Needed.{CopyReady}
use Rattle.copies.proofs.BytesLaws.{page_room, bytes_length, bytes_add, bytes_page, written_add, written_page}

-- ---- the part of a page that a turn reads or writes: k of the n bytes that are left, from address a on

pub turn : (a n k : ℕ) → k ≡ min (4096 - a % 4096) n → a % 4096 + k ≤ 4096
turn a n k e = omega arith

module _ (s : Store) (r va n : ℕ) (f : CopyReady s r va n) (i : ℕ) (l : i < n) (k m from : ℕ) (ek : k ≡ min (4096 - (va + i) % 4096) m) (p : from ≡ place_at s r (va + i)) where
  -- all of it lies on one page, and is there
  one : (va + i) % 4096 + k ≤ 4096
  one = turn (va + i) m k ek

  room : from + k ≤ length s.bytes
  room = omega (arith, p, page_room s r f.at_root.sized (va + i) k (f.pages i (inl l)) one)

-- ---- the first i bytes are read, and the rest of the buffer is as it was

abbrev pub Reading : Store → ℕ → ℕ → List ℕ → List ℕ → ℕ → Type 0
Reading s r va dst₀ dst i = dst ≡ bytes_at s r va i ++ drop i dst₀

pub read_start : (s : Store) (r va : ℕ) (dst : List ℕ) → Reading s r va dst dst 0
unfolding bytes_at
read_start s r va dst = refl

module _ (s : Store) (r va : ℕ) (dst₀ dst : List ℕ) (i : ℕ) (h : Reading s r va dst₀ dst i) where
  module _ (f : CopyReady s r va (length dst₀)) (l : i < length dst₀) (k m from : ℕ) (ek : k ≡ min (4096 - (va + i) % 4096) m) (p : from ≡ place_at s r (va + i)) where
    pub read_more : (x : List ℕ) → x ≡ mid_of from (from + k - from) s.bytes → Reading s r va dst₀ (put_mid i (i + k - i) dst x) (i + k)
    read_more x e =
        let at : from + k ≤ length s.bytes = room s r va (length dst₀) f i l k m from ek p in
        let n : from + k - from ≡ k = omega arith in
        let b : x ≡ bytes_at s r (va + i) k = e ∙ ap₂ (λ (j y : ℕ). take j (drop y s.bytes)) n p ∙ sym (bytes_page s r (va + i) k (turn (va + i) m k ek) (omega arith)) in
        let t : take i dst ≡ bytes_at s r va i = ap (take i) h ∙ take_at (bytes_at s r va i) (drop i dst₀) i (bytes_length s r va i) in
        let d : drop i dst ≡ drop i dst₀ = ap (drop i) h ∙ drop_at (bytes_at s r va i) (drop i dst₀) i (bytes_length s r va i) in
        let q : drop (i + k - i) (drop i dst) ≡ drop (i + k) dst₀ = ap (drop (i + k - i)) d ∙ Post-is i (i + k) dst₀ (omega arith) in
        ap₂ (λ (y z : List ℕ). y ++ (x ++ z)) t q ∙ ap (λ (y : List ℕ). bytes_at s r va i ++ (y ++ drop (i + k) dst₀)) b
        ∙ sym (append_assoc (bytes_at s r va i) (bytes_at s r (va + i) k) (drop (i + k) dst₀))
        ∙ ap (λ (y : List ℕ). y ++ drop (i + k) dst₀) (sym (bytes_add s r va i k))

-- ---- the bytes that are left to write, from byte i of the source on, give the whole

abbrev pub Writing : Store → ℕ → ℕ → List ℕ → List ℕ → List ℕ → ℕ → Type 0
Writing s r va src bs₀ bs i = written s r va src bs₀ ≡ written s r (va + i) (drop i src) bs

module _ (s : Store) (r va : ℕ) (src bs₀ bs : List ℕ) (i : ℕ) (h : Writing s r va src bs₀ bs i) where
  module _ (f : CopyReady s r va (length src)) (l : i < length src) (same : length bs ≡ length s.bytes) (k to : ℕ) (ek : k ≡ min (4096 - (va + i) % 4096) (length src - i))
      (p : to ≡ place_at s r (va + i)) where
    one_page : (va + i) % 4096 + k ≤ 4096
    one_page = turn (va + i) (length src - i) k ek

    in_bytes : to + k ≤ length bs
    in_bytes = omega (arith, same, room s r va (length src) f i l k (length src - i) to ek p)

    -- the part of the source, as the bytes from va + i on
    there : (x : List ℕ) → length x ≡ k → written s r (va + i) x bs ≡ put_mid to (to + k - to) bs x
    there x q =
        let j : to + length x ≡ to + k = omega (arith, q) in
        written_page s r (va + i) x bs (omega (arith, q, one_page)) ∙ ap (λ (y : ℕ). sets bs y x) (sym p) ∙ sets-eq x bs to (omega (arith, q, in_bytes))
        ∙ append_assoc (take to bs) x (drop (to + length x) bs) ∙ ap (λ (y : ℕ). take to bs ++ (x ++ drop y bs)) j
        ∙ ap (λ (y : List ℕ). take to bs ++ (x ++ y)) (sym (Post-is to (to + k) bs (omega arith)))

    pub write_more : (x : List ℕ) → x ≡ mid_of i (i + k - i) src → Writing s r va src bs₀ (put_mid to (to + k - to) bs x) (i + k)
    write_more x e =
        let n : i + k - i ≡ k = omega arith in
        let b : x ≡ take k (drop i src) = e ∙ ap (λ (j : ℕ). take j (drop i src)) n in
        let q : length x ≡ k = ap length b ∙ length-take-le k (drop i src) (omega (arith, length-drop i src, ek)) in
        let d : drop i src ≡ x ++ drop (i + k) src = sym (take-append-drop k (drop i src)) ∙ ap₂ (λ (y z : List ℕ). y ++ z) (sym b) (drop-drop k i src) in
        let m : va + i + length x ≡ va + (i + k) = omega (arith, q) in
        h ∙ ap (λ (y : List ℕ). written s r (va + i) y bs) d ∙ written_add s r (va + i) x (drop (i + k) src) bs
        ∙ ap₂ (λ (y : ℕ) (z : List ℕ). written s r y (drop (i + k) src) z) m (there x q)

  pub write_all : i ≡ length src → bs ≡ written s r va src bs₀
  unfolding written
  write_all e = sym (h ∙ ap (λ (x : List ℕ). written s r (va + i) x bs) (ap (λ (j : ℕ). drop j src) e ∙ drop-length src))
