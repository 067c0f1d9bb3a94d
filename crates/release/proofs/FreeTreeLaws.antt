-- Freeing a table and those below it, a turn of the loop at a time. Assumes nothing.
use mathlib.Core.Path.{◌≡◌, refl, sym, subst, ap, ◌∙◌}
use mathlib.Core.List.{List, ◌++◌}
use mathlib.Core.Logic.{by_cases}
use mathlib.Core.Bool.{Bool, true, false, cond}
use Prim.Native.Nat.{ℕ, zero, suc, ◌+◌, ◌-◌, ◌*◌, ◌≤◌, ◌<◌}
use native.Mathlib.Nat.{add-zero, suc-mul, le_trans, le-add_right}
use native.Mathlib.Numerals.{add-one, sub-one}
use native.Mathlib.Decide.{dec_le, dec_lt}
use native.Mathlib.Omega.{arith}
use borrow.Author.Tests.{lt-ltb, le-ltb}
use borrow.Rule.Slice.PartMut.{put_mid}
use lib.Dec.{ltb}
use lib.ListN.{length, take, drop, set, replicate, length-drop}
use lib.Seq.{length-take-le}
use Rattle.store.specs.Store.{word, frame_no}
use Rattle.store.specs.Walk.{table_of, slot_word}
use Rattle.store.proofs.Tree.{word_slot}
use Rattle.walk.specs.Runs.{Run}
use Rattle.walk.proofs.RangeLaws.{run_one}
use Rattle.release.specs.FreeTree.{Trees, trees, zeroed, wipe, add, child, children, free_tree}

-- the 512 words from a on, filled with 0 and put back
pub put_zero : (a k : ℕ) (xs ys : List ℕ) → k ≡ 512 → a + 512 ≤ length xs → ys ≡ replicate (length (take k (drop a xs))) 0
    → put_mid a k xs ys ≡ take a xs ++ (replicate 512 0 ++ drop 512 (drop a xs))
put_zero a k xs ys e h q =
    let n : length (take k (drop a xs)) ≡ 512 = length-take-le k (drop a xs) (simp length-drop (omega arith)) ∙ e in
    ap (λ (z : List ℕ). put_mid a k xs z) (q ∙ ap (λ (m : ℕ). replicate m 0) n)
    ∙ ap (λ (m : ℕ). take a xs ++ (replicate 512 0 ++ drop m (drop a xs))) e

-- a table is wiped, after the tables below it
pub then_wiped : (t : ℕ) (ws ms : List ℕ) (n : ℕ) (ws' ms' : List ℕ) → ws' ≡ zeroed ws t → ms' ≡ set ms t 0 → trees ws' ms' (n + 1) ≡ wipe t (trees ws ms n)
then_wiped t ws ms n ws' ms' p q = rw (p, q)

module _ (t : ℕ) (ws ms : List ℕ) where
  pub free_lowest : (l : ℕ) → l ≡ 0 → free_tree l t ws ms ≡ wipe t (trees ws ms 0)
  unfolding free_tree
  free_lowest l e = ap (λ (k : ℕ). free_tree k t ws ms) e

  pub free_higher : (l : ℕ) → (l ≡ 0 → ⊥) → free_tree l t ws ms ≡ wipe t (children (free_tree (l - 1)) t ws ms 512)
  unfolding free_tree
  free_higher zero h = absurd (h refl)
  free_higher (suc l) h = ap (λ (k : ℕ). wipe t (children (free_tree k) t ws ms 512)) (sym (sub-one (suc l)))

-- ---- a word, by what it names

module _ (f : ℕ → List ℕ → List ℕ → Trees) (x : ℕ) (s : Trees) where
  pub names_none : frame_no x < 0x10_0000 → child f x s ≡ s
  unfolding child
  names_none h = simp (lt-ltb _ _ h)

  pub names_one : 0x10_0000 ≤ frame_no x → table_of x < length s.tmarks → child f x s ≡ add s (f (table_of x) s.words s.tmarks)
  unfolding child
  names_one h g = simp (le-ltb _ _ h, lt-ltb _ _ g)

  -- no table of the store
  names_other : ((0x10_0000 ≤ frame_no x) × (table_of x < length s.tmarks) → ⊥) → child f x s ≡ s
  unfolding child
  names_other h =
      by_cases (dec_lt (frame_no x) 0x10_0000) names_none
      (λ g. let l : length s.tmarks ≤ table_of x = by_cases (dec_lt (table_of x) (length s.tmarks)) (λ k. absurd (h (omega arith, k))) (λ k. omega arith) in simp (le-ltb (frame_no x) 0x10_0000 (omega arith), le-ltb (table_of x) (length s.tmarks) l))

-- ---- how many tables there can be

pick : (p q : Bool) (s r : Trees) (b : ℕ) → r.count ≤ b → (cond p s (cond q (add s r) s)).count ≤ s.count + b
pick true q s r b h = le-add_right s.count b
pick false true s r b h = omega arith
pick false false s r b h = le-add_right s.count b

module _ (f : ℕ → List ℕ → List ℕ → Trees) (b : ℕ) (small : (c : ℕ) (ws ms : List ℕ) → (f c ws ms).count ≤ b) where
  counted : (t : ℕ) (ws ms : List ℕ) (e : ℕ) → (children f t ws ms e).count ≤ e * b
  unfolding children child
  counted t ws ms zero = omega arith
  counted t ws ms (suc e) =
      let s = children f t ws ms e in
      let x = word s.words (512 * t + e) in
      subst (λ (m : ℕ). (child f x s).count ≤ m) (sym (suc-mul e b))
      (le_trans (pick (ltb (frame_no x) 0x10_0000) (ltb (table_of x) (length s.tmarks)) s (f (table_of x) s.words s.tmarks) b (small (table_of x) s.words s.tmarks))
      (omega (arith, counted t ws ms e)))

one_counted : (t : ℕ) (ws ms : List ℕ) → (free_tree 0 t ws ms).count ≤ 1
unfolding free_tree
one_counted t ws ms = omega arith

small : (l : ℕ) → l ≤ 1 → (t : ℕ) (ws ms : List ℕ) → (free_tree l t ws ms).count ≤ 513
unfolding free_tree
small zero h t ws ms = omega arith
small (suc zero) h t ws ms = omega (arith, counted (free_tree 0) 1 one_counted t ws ms 512)
small (suc (suc l)) h t ws ms = absurd (omega arith)

module _ (l : ℕ) (h : l ≤ 1) (t : ℕ) (ws ms : List ℕ) {ws' ms' : List ℕ} {n : ℕ} where
  pub free_few : trees ws' ms' n ≡ free_tree l t ws ms → n ≤ 513
  free_few e = omega (arith, ap (λ (s : Trees). s.count) e, small l h t ws ms)

  pub children_few : (e : ℕ) → trees ws' ms' n ≡ children (free_tree l) t ws ms e → n ≤ e * 513
  children_few e q = omega (arith, ap (λ (s : Trees). s.count) q, counted (free_tree l) 513 (small l h) t ws ms e)

-- ---- a turn of the loop, from what is freed before it to what is freed after it

module _ (f : ℕ → List ℕ → List ℕ → Trees) (t : ℕ) (ws₀ ms₀ : List ℕ) where
  -- one word
  turn : (e : ℕ) (ws ms : List ℕ) (n : ℕ) {s : Trees} → trees ws ms n ≡ children f t ws₀ ms₀ e → child f (word ws (512 * t + e)) (trees ws ms n) ≡ s → s ≡ children f t ws₀ ms₀ (e + 1)
  unfolding children
  turn e ws ms n inv p =
      sym p ∙ ap (λ (s : Trees). child f (word s.words (512 * t + e)) s) inv
      ∙ sym (ap (λ (k : ℕ). children f t ws₀ ms₀ k) (add-one e))

  -- r words that are 0
  turn_zeros : (e : ℕ) (ws ms : List ℕ) (n r : ℕ) → trees ws ms n ≡ children f t ws₀ ms₀ e → ((i : ℕ) → i < r → word ws (512 * t + e + i) ≡ 0) → trees ws ms n ≡ children f t ws₀ ms₀ (e + r)
  turn_zeros e ws ms n zero inv z = inv ∙ ap (children f t ws₀ ms₀) (sym (add-zero e))
  turn_zeros e ws ms n (suc r) inv z =
      let x : 512 * t + e + r ≡ 512 * t + (e + r) = omega arith in
      let o : word ws (512 * t + (e + r)) ≡ 0 = ap (word ws) (sym x) ∙ z r (omega arith) in
      let s : e + r + 1 ≡ e + suc r = omega arith in
      turn (e + r) ws ms n (turn_zeros e ws ms n r inv (λ i l. z i (omega arith))) (names_none f (word ws (512 * t + (e + r))) (trees ws ms n) (omega arith)) ∙ ap (children f t ws₀ ms₀) s

  -- a run that was taken as one
  module _ (e : ℕ) (ws ms : List ℕ) (n : ℕ) (inv : trees ws ms n ≡ children f t ws₀ ms₀ e) (r : ℕ) (c : Run ws (512 * t + e + 2) r) where
    abbrev x : ℕ
    x = word ws (512 * t + e)

    abbrev Names : Type 0
    Names = (0x10_0000 ≤ frame_no x) × (table_of x < length ms)

    -- several of its words are 0
    zero_words : 1 < r → (i : ℕ) → i < r → word ws (512 * t + e + i) ≡ 0
    zero_words h i l = let q : 512 * t + e + i + 2 ≡ 512 * t + e + 2 + i = omega arith in sym (word_slot ws (512 * t + e + i)) ∙ ap (slot_word ws) q ∙ c.empty h (512 * t + e + 2 + i) (omega arith) (omega arith)

    pub turn_run : (Names → ⊥) → trees ws ms n ≡ children f t ws₀ ms₀ (e + r)
    turn_run h =
        by_cases (dec_le r 1)
        (λ q. let s : e + 1 ≡ e + r = omega (arith, c.some) in turn e ws ms n inv (names_other f x (trees ws ms n) h) ∙ ap (children f t ws₀ ms₀) s)
        (λ q. turn_zeros e ws ms n r inv (zero_words (omega arith)))

    -- a word that names a table is taken alone
    pub turn_one : Names → (j : ℕ) → j ≡ table_of x → (k : ℕ) (ws' ms' : List ℕ) → trees ws' ms' k ≡ f j ws ms → trees ws' ms' (n + k) ≡ children f t ws₀ ms₀ (e + r)
    turn_one h j q k ws' ms' p =
        let one : r ≡ 1 = run_one ws (512 * t + e + 2) r c (omega (arith, word_slot ws (512 * t + e), h.0)) in
        turn e ws ms n inv (names_one f x (trees ws ms n) h.0 h.1 ∙ ap (add (trees ws ms n)) (ap (λ (i : ℕ). f i ws ms) (sym q) ∙ sym p))
        ∙ ap (λ (i : ℕ). children f t ws₀ ms₀ (e + i)) (sym one)
