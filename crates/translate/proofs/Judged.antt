-- The manual's steps on the words of a well-formed store: 0, a pointer, a level-0 word. Assumes nothing.
use mathlib.Core.Path.{◌≡◌, refl, sym, ◌∙◌}
use mathlib.Core.Bool.{Bool, true, false, cond, not, ◌&&◌, ◌||◌, true≢false, false≢true}
use mathlib.Core.Logic.{◌⊎◌, inl, inr, ⊎_elim, ◌↔◌, by_cases}
use Prim.Native.Nat.{ℕ, zero, suc, ◌+◌, ◌/◌, ◌%◌, ◌^◌, ◌<◌}
use native.Mathlib.Decide.{dec_lt}
use native.Mathlib.Omega.{arith}
use borrow.Author.Tests.{le-ltb, eq-eqb, ne_eqb, eqb-true}
use Rattle.address.specs.Field.{field, bit}
use Rattle.page_table_entry.specs.Layout.{bit_v, bit_r, bit_w, bit_x, bit_u, has, above_frame, frame_of}
use Rattle.store.specs.Store.{pointer_to}
use Rattle.translate.specs.Sv39.{Walked, none, leaf, fault, at, Kind, load, fetch, right, judged, allowed, address, finish, usable, ends, granted, Differs, neither, write_only}

pub judged_zero : (i : ℕ) (n : Walked) → judged i 0 n ≡ none
unfolding judged
judged_zero i n = refl

pub judged_pointer : (i t : ℕ) (n : Walked) → t < 512 → judged i (pointer_to t) n ≡ n
unfolding judged
judged_pointer i t n h =
    rw (
      eq-eqb (bit bit_v (pointer_to t)) 1 (omega arith),
      ne_eqb (bit bit_r (pointer_to t)) 1 (λ e. omega arith),
      ne_eqb (bit bit_w (pointer_to t)) 1 (λ e. omega arith),
      ne_eqb (bit bit_x (pointer_to t)) 1 (λ e. omega arith),
      ne_eqb (bit bit_u (pointer_to t)) 1 (λ e. omega arith),
      ne_eqb (bit 6 (pointer_to t)) 1 (λ e. omega arith),
      ne_eqb (bit 7 (pointer_to t)) 1 (λ e. omega arith),
      le-ltb 0 (above_frame (pointer_to t)) (omega arith),
    )

tests : (r w x q : Bool) (l : Walked) → cond (not r && w || not (r || x) && q) none (cond (r || x) l none) ≡ cond ((r || x) && not (w && not r)) l none
tests true true x q l = refl
tests true false x q l = refl
tests false true true q l = refl
tests false true false q l = refl
tests false false true q l = refl
tests false false false true l = refl
tests false false false false l = refl

pub judged_last : (e : ℕ) → (0 < e → (e % 2 ≡ 1) × (e < 2 ^ 54)) → judged 0 e none ≡ ends e
unfolding judged
judged_last zero h = refl
judged_last (suc x) h = last (suc x) (h (omega arith)).0 (h (omega arith)).1
  where
    last : (e : ℕ) → e % 2 ≡ 1 → e < 2 ^ 54 → judged 0 e none ≡ ends e
    last e v l =
        rw (eq-eqb (bit bit_v e) 1 (omega arith), le-ltb 0 (above_frame e) (omega arith)) (tests (has bit_r e) (has bit_w e) (has bit_x e) (has bit_u e || has 6 e || has 7 e) (leaf 0 e))

-- steps 5 to 8 after that
finished : (kind : Kind) (va e : ℕ) (u : Bool) → has bit_v e ≡ true
    → finish kind va (cond u (leaf 0 e) none) ≡ cond (has bit_v e && u && allowed kind e) (at (frame_of e + va % 4096)) fault
unfolding finish
finished kind va e true v =
    let m : field 10 0 e ≡ 0 = omega arith in
    let a : address 0 e va ≡ frame_of e + va % 4096 = omega arith in
    rw (v, m, a)
finished kind va e false v = rw v

pub finishes : (kind : Kind) (va e : ℕ) → (0 < e → (e % 2 ≡ 1) × (e < 2 ^ 54)) → finish kind va (ends e) ≡ cond (granted kind e) (at (frame_of e + va % 4096)) fault
unfolding finish
finishes kind va zero h = refl
finishes kind va (suc x) h =
    finished kind va (suc x) (usable (suc x)) (eq-eqb (bit bit_v (suc x)) 1 (omega (arith, (h (omega arith)).0)))

-- a bit is 0 or 1
pub parity : (x : ℕ) → (x % 2 ≡ 0) ⊎ (x % 2 ≡ 1)
parity x = by_cases (dec_lt (x % 2) 1) (λ h. inl (omega arith)) (λ n. inr (omega arith))

-- a word is usable, or it is one of the two differences
pub either : (e : ℕ) → ((usable e ≡ true) × (Differs e → ⊥)) ⊎ ((usable e ≡ false) × Differs e)
either e = go (parity (e / 2 ^ bit_r)) (parity (e / 2 ^ bit_w)) (parity (e / 2 ^ bit_x))
  where
    not_r : bit bit_r e ≡ 1 → Differs e → ⊥
    not_r h (neither r x) = omega arith
    not_r h (write_only r w) = omega arith

    not_x : bit bit_w e ≡ 0 → bit bit_x e ≡ 1 → Differs e → ⊥
    not_x h k (neither r x) = omega arith
    not_x h k (write_only r w) = omega arith

    go : (bit bit_r e ≡ 0) ⊎ (bit bit_r e ≡ 1) → (bit bit_w e ≡ 0) ⊎ (bit bit_w e ≡ 1) → (bit bit_x e ≡ 0) ⊎ (bit bit_x e ≡ 1)
        → ((usable e ≡ true) × (Differs e → ⊥)) ⊎ ((usable e ≡ false) × Differs e)
    go (inr r) (inl w) x = inl (rw (r, w), not_r r)
    go (inr r) (inr w) x = inl (rw (r, w), not_r r)
    go (inl r) w (inl x) = inr (rw (r, x), neither r x)
    go (inl r) (inl w) (inr x) = inl (rw (r, w, x), not_x w x)
    go (inl r) (inr w) (inr x) = inr (rw (r, w, x), write_only r w)

-- usable words are exactly those outside the differences
pub usable_exactly : (e : ℕ) → (usable e ≡ true) ↔ (Differs e → ⊥)
usable_exactly e = ⊎_elim (λ q. (λ h. q.1, λ n. q.0)) (λ q. (λ h. absurd (true≢false (sym h ∙ q.0)), λ n. absurd (n q.1))) (either e)

-- a leaf is no fault
leaf_none : {i e : ℕ} → leaf i e ≡ none → ⊥
leaf_none h = let o : ◌≡◌ {A = ℕ} 0 1 = cc in omega arith

-- the walk ends without a leaf exactly there
pub ends_none : (e : ℕ) → (ends e ≡ none) ↔ Differs e
ends_none e = ⊎_elim (λ q. (λ h. absurd (leaf_none {i = 0} {e = e} (rw q.0 at h)), λ d. absurd (q.1 d))) (λ q. (λ h. q.1, λ d. rw q.0)) (either e)

-- and with a leaf only at level 0, at the word itself, which is not 0
pub ends_leaf : (w i e : ℕ) → ends w ≡ leaf i e → (i ≡ 0) × (e ≡ w) × (0 < w)
ends_leaf zero i e h = absurd (leaf_none (sym h))
ends_leaf (suc x) i e h =
    ⊎_elim (λ q. let f : leaf 0 (suc x) ≡ leaf i e = rw q.0 at h in (cc, cc, omega arith))
    (λ q. absurd (leaf_none {i = i} {e = e} (sym (rw q.0 at h)))) (either (suc x))

-- what a granted access tells of the word, and the other way
conj : (a b c d : Bool) → a && b && (c && d) ≡ true → (a ≡ true) × (b ≡ true) × (c ≡ true) × (d ≡ true)
conj true true true true h = (refl, refl, refl, refl)
conj true true true false h = absurd (false≢true h)
conj true true false d h = absurd (false≢true h)
conj true false c d h = absurd (false≢true h)
conj false b c d h = absurd (false≢true h)

pub granted_parts : (kind : Kind) (e : ℕ) → granted kind e ≡ true → (bit bit_v e ≡ 1) × (bit bit_u e ≡ 1) × (usable e ≡ true) × (bit (right kind) e ≡ 1)
granted_parts kind e h =
    let q = conj (has bit_v e) (usable e) (has bit_u e) (has (right kind) e) h in
    (eqb-true (bit bit_v e) 1 q.0, eqb-true (bit bit_u e) 1 q.2, q.1, eqb-true (bit (right kind) e) 1 q.3)

pub granted_of : (kind : Kind) (e : ℕ) → bit bit_v e ≡ 1 → bit bit_u e ≡ 1 → usable e ≡ true → bit (right kind) e ≡ 1 → granted kind e ≡ true
granted_of kind e v u a h = rw (eq-eqb (bit bit_v e) 1 v, a, eq-eqb (bit bit_u e) 1 u, eq-eqb (bit (right kind) e) 1 h)

-- no kind is granted at the differences
denied : (v u a : Bool) → u ≡ false → v && u && a ≡ false
denied true u a h = rw h
denied false u a h = refl

pub differs_denied : (kind : Kind) (e : ℕ) → Differs e → granted kind e ≡ false
differs_denied kind e d = denied (has bit_v e) (usable e) (allowed kind e) (⊎_elim (λ q. absurd (q.1 d)) (λ q. q.0) (either e))

-- a usable word has R or X
pub some_kind : (e : ℕ) → usable e ≡ true → (kind : Kind) × (bit (right kind) e ≡ 1)
some_kind e h = go (parity (e / 2 ^ bit_r)) (parity (e / 2 ^ bit_x))
  where
    go : (bit bit_r e ≡ 0) ⊎ (bit bit_r e ≡ 1) → (bit bit_x e ≡ 0) ⊎ (bit bit_x e ≡ 1) → (kind : Kind) × (bit (right kind) e ≡ 1)
    go (inr r) x = (load, r)
    go (inl r) (inr x) = (fetch, x)
    go (inl r) (inl x) = absurd ((usable_exactly e).0 h (neither r x))

-- an access is let through to one address only
pub let_through : (g : Bool) (a pa : ℕ) → cond g (at a) fault ≡ at pa → (g ≡ true) × (pa ≡ a)
let_through true a pa h = (refl, cc)
let_through false a pa h = let o : ◌≡◌ {A = ℕ} 0 1 = cc in absurd (omega arith)
