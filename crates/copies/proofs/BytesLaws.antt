-- Bytes by their addresses: in two parts, one by one, and as a run within one page. Assumes nothing.
use mathlib.Core.Path.{◌≡◌, refl, sym, ap, ◌∙◌, subst, subst₂}
use mathlib.Core.List.{List, [], ◌∷◌, ◌++◌}
use Prim.Native.Nat.{ℕ, zero, suc, ◌+◌, ◌-◌, ◌*◌, ◌/◌, ◌%◌, ◌≤◌, ◌<◌}
use native.Mathlib.Omega.{arith}
use lib.ListN.{length, get_or, set, take, drop, length-set, length-drop}
use lib.Seq.{length-take-le, get_or-take, get_or-drop, ext_get_or, get_or-set_same, get_or-set_other, sets}
use Rattle.store.specs.Store.{Store, Sized, frame_no}
use Rattle.store.specs.Walk.{resolve}
use Rattle.copies.specs.Bytes.{place_at, byte_at, bytes_at, written}
use Rattle.copies.specs.Needed.{PageReady}

module _ (s : Store) (r : ℕ) where
  -- addresses of one page have neighbouring places
  pub place_add : (a i : ℕ) → a % 4096 + i < 4096 → place_at s r (a + i) ≡ place_at s r a + i
  place_add a i h =
      let p : (a + i) / 4096 ≡ a / 4096 = omega arith in
      let q : (a + i) % 4096 ≡ a % 4096 + i = omega arith in
      ap (λ (x : ℕ). 4096 * (frame_no (resolve s r x) - 0x11_0000) + (a + i) % 4096) p ∙ omega (arith, q)

  -- the bytes of a page that can be used are all there
  pub page_room : Sized s → (a k : ℕ) → PageReady s r a → a % 4096 + k ≤ 4096 → place_at s r a + k ≤ length s.bytes
  page_room z a k p h = omega (arith, p.pool.number, p.pool.there, z.bytes)

  -- ---- bytes read

  pub bytes_length : (a n : ℕ) → length (bytes_at s r a n) ≡ n
  unfolding bytes_at
  bytes_length a zero = refl
  bytes_length a (suc n) = ap suc (bytes_length (suc a) n)

  pub bytes_add : (a n k : ℕ) → bytes_at s r a (n + k) ≡ bytes_at s r a n ++ bytes_at s r (a + n) k
  unfolding bytes_at
  bytes_add a zero k =
      let e : zero + k ≡ k = omega arith in
      let f : a ≡ a + zero = omega arith in
      ap (bytes_at s r a) e ∙ ap (λ (x : ℕ). bytes_at s r x k) f
  bytes_add a (suc n) k =
      let e : suc n + k ≡ suc (n + k) = omega arith in
      let f : suc a + n ≡ a + suc n = omega arith in
      ap (bytes_at s r a) e ∙ ap (λ (l : List ℕ). byte_at s r a ∷ l) (bytes_add (suc a) n k ∙ ap (λ (x : ℕ). bytes_at s r (suc a) n ++ bytes_at s r x k) f)

  -- byte i of them
  pub bytes_get : (a n i : ℕ) → i < n → get_or (bytes_at s r a n) i 0 ≡ byte_at s r (a + i)
  unfolding bytes_at
  bytes_get a zero i h = absurd (omega arith)
  bytes_get a (suc n) zero h = let f : a ≡ a + zero = omega arith in ap (byte_at s r) f
  bytes_get a (suc n) (suc i) h = let f : suc a + i ≡ a + suc i = omega arith in bytes_get (suc a) n i (omega arith) ∙ ap (byte_at s r) f

  -- within one page they are a part of the frame bytes
  pub bytes_page : (a k : ℕ) → a % 4096 + k ≤ 4096 → place_at s r a + k ≤ length s.bytes → bytes_at s r a k ≡ take k (drop (place_at s r a) s.bytes)
  bytes_page a k h l =
      let d : List ℕ = drop (place_at s r a) s.bytes in
      let e : length (take k d) ≡ k = length-take-le k d (omega (arith, length-drop (place_at s r a) s.bytes)) in
      ext_get_or 0 (bytes_at s r a k) (take k d) (bytes_length a k ∙ sym e) (λ i q.
      let b : i < k = omega (arith, bytes_length a k) in
      bytes_get a k i b ∙ ap (λ (x : ℕ). get_or s.bytes x 0) (place_add a i (omega arith)) ∙ sym (get_or-take k d i 0 b ∙ get_or-drop (place_at s r a) s.bytes i 0))

  -- ---- bytes written

  pub written_length : (a : ℕ) (b bs : List ℕ) → length (written s r a b bs) ≡ length bs
  unfolding written
  written_length a [] bs = refl
  written_length a (x ∷ b) bs = written_length (suc a) b (set bs (place_at s r a) x) ∙ length-set bs (place_at s r a) x

  pub written_add : (a : ℕ) (b c bs : List ℕ) → written s r a (b ++ c) bs ≡ written s r (a + length b) c (written s r a b bs)
  unfolding written
  written_add a [] c bs = let f : a ≡ a + 0 = omega arith in ap (λ (x : ℕ). written s r x c bs) f
  written_add a (x ∷ b) c bs =
      let f : suc a + length b ≡ a + suc (length b) = omega arith in
      let bs' : List ℕ = set bs (place_at s r a) x in
      written_add (suc a) b c bs' ∙ ap (λ (y : ℕ). written s r y c (written s r (suc a) b bs')) f

  -- within one page they go to a part of the frame bytes
  pub written_page : (a : ℕ) (b bs : List ℕ) → a % 4096 + length b ≤ 4096 → written s r a b bs ≡ sets bs (place_at s r a) b
  unfolding written
  written_page a [] bs h = refl
  written_page a (x ∷ []) bs h = refl
  written_page a (x ∷ y ∷ b) bs h =
      let e : a + 1 ≡ suc a = omega arith in
      let f : place_at s r a + 1 ≡ suc (place_at s r a) = omega arith in
      let g : place_at s r (suc a) ≡ suc (place_at s r a) = ap (place_at s r) (sym e) ∙ place_add a 1 (omega arith) ∙ f in
      written_page (suc a) (y ∷ b) (set bs (place_at s r a) x) (omega arith) ∙ ap (λ (i : ℕ). sets (set bs (place_at s r a) x) i (y ∷ b)) g

  -- a byte that lies at none of their addresses stays
  pub written_rest : (a : ℕ) (b bs : List ℕ) (k : ℕ) → ((i : ℕ) → i < length b → k ≡ place_at s r (a + i) → ⊥) → get_or (written s r a b bs) k 0 ≡ get_or bs k 0
  unfolding written
  written_rest a [] bs k h = refl
  written_rest a (x ∷ b) bs k h =
      let here : k ≡ place_at s r a → ⊥ = λ e. let f : a ≡ a + 0 = omega arith in h 0 (omega arith) (e ∙ ap (place_at s r) f) in
      written_rest (suc a) b (set bs (place_at s r a) x) k (λ i l e. let f : suc a + i ≡ a + suc i = omega arith in h (suc i) (omega arith) (e ∙ ap (place_at s r) f))
      ∙ get_or-set_other bs (place_at s r a) k x 0 here

  -- where no two of them have one place, byte i of them is found at its address
  pub written_here : (a : ℕ) (b bs : List ℕ) → ((i j : ℕ) → i < j → j < length b → place_at s r (a + i) ≡ place_at s r (a + j) → ⊥)
      → (i : ℕ) → i < length b → place_at s r (a + i) < length bs → get_or (written s r a b bs) (place_at s r (a + i)) 0 ≡ get_or b i 0
  unfolding written
  written_here a [] bs h i l k = absurd (omega arith)
  written_here a (x ∷ b) bs h zero l k =
      let e : a + 0 ≡ a = omega arith in
      let bs' : List ℕ = set bs (place_at s r a) x in
      ap (λ (y : ℕ). get_or (written s r (suc a) b bs') (place_at s r y) 0) e
      ∙ written_rest (suc a) b bs' (place_at s r a) (λ j m q. let f : suc a + j ≡ a + suc j = omega arith in h 0 (suc j) (omega arith) (omega arith) (ap (place_at s r) e ∙ q ∙ ap (place_at s r) f))
      ∙ get_or-set_same bs (place_at s r a) x 0 (subst (λ (y : ℕ). place_at s r y < length bs) e k)
  written_here a (x ∷ b) bs h (suc i) l k =
      let f : (j : ℕ) → suc a + j ≡ a + suc j = λ j. omega arith in
      let bs' : List ℕ = set bs (place_at s r a) x in
      let in' : place_at s r (suc a + i) < length bs' =
      subst₂ (λ (y z : ℕ). place_at s r y < z) (sym (f i)) (sym (length-set bs (place_at s r a) x)) k in
      ap (λ (y : ℕ). get_or (written s r (suc a) b bs') (place_at s r y) 0) (sym (f i))
      ∙ written_here (suc a) b bs' (λ i' j m n q. h (suc i') (suc j) (omega arith) (omega arith) (sym (ap (place_at s r) (f i')) ∙ q ∙ ap (place_at s r) (f j))) i (omega arith) in'
