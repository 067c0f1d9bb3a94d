-- Lists with zeros at some numbers, how many numbers these are, and tables wiped one after the other. Assumes nothing.
use mathlib.Core.Path.{◌≡◌, refl, sym, ap, ap₂, ◌∙◌, fun_ext}
use mathlib.Core.Bool.{Bool, true, false, cond, ◌||◌}
use mathlib.Core.List.{List, [], ◌∷◌, ◌++◌}
use Prim.Native.Nat.{ℕ, zero, suc, ◌+◌, ◌-◌, ◌*◌, ◌/◌, ◌≤◌, ◌<◌}
use native.Mathlib.Nat.{add-zero, zero-add, add-suc, suc-add}
use native.Mathlib.Decide.{ℕ_discrete, dec_lt}
use native.Mathlib.Omega.{arith}
use borrow.Author.Tests.{eq-eqb, ne_eqb, eqb-true}
use lib.Dec.{eqb}
use lib.ListN.{length, get_or, take, drop, set, replicate, length-append, length-drop, length-replicate, length-set, get_or-replicate, get_or-append}
use lib.Seq.{length-take-le, get_or-take, get_or-drop, get_or-append-add, get_or-set_same, get_or-set_other, ext_get_or}
use Rattle.store.proofs.Sums.{sum_cong, sum_zero, sum_add, sum_only}
use Rattle.release.specs.Free.{wiped, wiped_words, wiped_marks, many}
use Rattle.release.specs.FreeTree.{Trees, trees, zeroed, wipe, add}

-- ---- lists

pub wiped_length : (p : ℕ → Bool) (i : ℕ) (l : List ℕ) → length (wiped p i l) ≡ length l
unfolding wiped
wiped_length p i [] = refl
wiped_length p i (x ∷ l) = ap suc (wiped_length p (suc i) l)

cond_zero : (b : Bool) → ◌≡◌ {A = ℕ} 0 (cond b 0 0)
cond_zero true = refl
cond_zero false = refl

wiped_from : (p : ℕ → Bool) (i : ℕ) (l : List ℕ) (j : ℕ) → get_or (wiped p i l) j 0 ≡ cond (p (i + j)) 0 (get_or l j 0)
unfolding wiped
wiped_from p i [] j = cond_zero (p (i + j))
wiped_from p i (x ∷ l) zero = ap (λ (k : ℕ). cond (p k) 0 x) (sym (add-zero i))
wiped_from p i (x ∷ l) (suc j) = wiped_from p (suc i) l j ∙ ap (λ (k : ℕ). cond (p k) 0 (get_or l j 0)) (suc-add i j ∙ sym (add-suc i j))

-- what stands at number j
pub wiped_at : (p : ℕ → Bool) (l : List ℕ) (j : ℕ) → get_or (wiped p 0 l) j 0 ≡ cond (p j) 0 (get_or l j 0)
wiped_at p l j = wiped_from p 0 l j ∙ ap (λ (k : ℕ). cond (p k) 0 (get_or l j 0)) (zero-add j)

pub wiped_in : (p : ℕ → Bool) (l : List ℕ) (j : ℕ) → p j ≡ true → get_or (wiped p 0 l) j 0 ≡ 0
wiped_in p l j e = wiped_at p l j ∙ rw e

pub wiped_out : (p : ℕ → Bool) (l : List ℕ) (j : ℕ) → p j ≡ false → get_or (wiped p 0 l) j 0 ≡ get_or l j 0
wiped_out p l j e = wiped_at p l j ∙ rw e

wiped_none : (i : ℕ) (l : List ℕ) → l ≡ wiped (λ _. false) i l
unfolding wiped
wiped_none i [] = refl
wiped_none i (x ∷ l) = ap (λ (r : List ℕ). x ∷ r) (wiped_none (suc i) l)

both : (p q : Bool) (x : ℕ) → cond q 0 (cond p 0 x) ≡ cond (p || q) 0 x
both true true x = refl
both true false x = refl
both false true x = refl
both false false x = refl

wiped_again : (p q : ℕ → Bool) (i : ℕ) (l : List ℕ) → wiped q i (wiped p i l) ≡ wiped (λ j. p j || q j) i l
unfolding wiped
wiped_again p q i [] = refl
wiped_again p q i (x ∷ l) = ap₂ ◌∷◌ (both (p i) (q i) x) (wiped_again p q (suc i) l)

-- ---- how many

one_of : (p q : Bool) → (p ≡ true → q ≡ true → ⊥) → cond (p || q) 1 0 ≡ cond p 1 0 + cond q 1 0
one_of true true h = absurd (h refl refl)
one_of true false h = refl
one_of false true h = refl
one_of false false h = refl

many_or : (p q : ℕ → Bool) (n : ℕ) → ((u : ℕ) → p u ≡ true → q u ≡ true → ⊥) → many p n + many q n ≡ many (λ u. p u || q u) n
many_or p q n h =
    sym (sum_cong (λ u. cond (p u || q u) 1 0) (λ u. cond (p u) 1 0 + cond (q u) 1 0) n (λ u l. one_of (p u) (q u) (h u)) ∙ sum_add (λ u. cond (p u) 1 0) (λ u. cond (q u) 1 0) n)

many_one : (t n : ℕ) → t < n → many (λ u. eqb u t) n ≡ 1
many_one t n l = sum_only (λ u. cond (eqb u t) 1 0) n t l (λ u h e. rw (ne_eqb u t e)) ∙ rw (eq-eqb t t refl)

-- ---- one table

module _ (ws : List ℕ) (t : ℕ) (h : 512 * t + 512 ≤ length ws) where
  abbrev front : List ℕ
  front = take (512 * t) ws

  abbrev back : List ℕ
  back = drop 512 (drop (512 * t) ws)

  front_length : length front ≡ 512 * t
  front_length = length-take-le (512 * t) ws (omega arith)

  zeroed_length : length (zeroed ws t) ≡ length ws
  zeroed_length = simp (length-append, length-drop, front_length) (omega arith)

  after : (n : ℕ) → get_or (zeroed ws t) (512 * t + n) 0 ≡ get_or (replicate 512 0 ++ back) n 0
  after n = ap (λ (k : ℕ). get_or (zeroed ws t) (k + n) 0) (sym front_length) ∙ get_or-append-add front (replicate 512 0 ++ back) n 0

  zeroed_in : (n : ℕ) → n < 512 → get_or (zeroed ws t) (512 * t + n) 0 ≡ 0
  zeroed_in n l = after n ∙ get_or-append (replicate 512 0) back 0 n (simp length-replicate l) ∙ get_or-replicate 512 n 0 0 l

  zeroed_low : (j : ℕ) → j < 512 * t → get_or (zeroed ws t) j 0 ≡ get_or ws j 0
  zeroed_low j l = get_or-append front (replicate 512 0 ++ back) 0 j (simp front_length l) ∙ get_or-take (512 * t) ws j 0 l

  zeroed_high : (n : ℕ) → get_or (zeroed ws t) (512 * t + (512 + n)) 0 ≡ get_or ws (512 * t + (512 + n)) 0
  zeroed_high n =
      after (512 + n) ∙ ap (λ (k : ℕ). get_or (replicate 512 0 ++ back) (k + n) 0) (sym (length-replicate {A = ℕ} 512 0))
      ∙ get_or-append-add (replicate 512 0) back n 0 ∙ get_or-drop 512 (drop (512 * t) ws) n 0 ∙ get_or-drop (512 * t) ws (512 + n) 0

  zeroed_at : (j : ℕ) → get_or (zeroed ws t) j 0 ≡ cond (eqb (j / 512) t) 0 (get_or ws j 0)
  zeroed_at j = go (ℕ_discrete (j / 512) t) (dec_lt j (512 * t))
    where
      go : Dec (j / 512 ≡ t) → Dec (j < 512 * t) → get_or (zeroed ws t) j 0 ≡ cond (eqb (j / 512) t) 0 (get_or ws j 0)
      go (yes e) d =
          let q : j ≡ 512 * t + (j - 512 * t) = omega arith in
          ap (λ (k : ℕ). get_or (zeroed ws t) k 0) q ∙ zeroed_in (j - 512 * t) (omega arith) ∙ rw (eq-eqb (j / 512) t e)
      go (no n) (yes l) = zeroed_low j l ∙ rw (ne_eqb (j / 512) t n)
      go (no n) (no g) =
          let q : j ≡ 512 * t + (512 + (j - 512 * t - 512)) = omega arith in
          ap (λ (k : ℕ). get_or (zeroed ws t) k 0) q ∙ zeroed_high (j - 512 * t - 512) ∙ ap (λ (k : ℕ). get_or ws k 0) (sym q) ∙ rw (ne_eqb (j / 512) t n)

  zeroed_wiped : zeroed ws t ≡ wiped_words (λ u. eqb u t) ws
  zeroed_wiped =
      ext_get_or 0 (zeroed ws t) (wiped_words (λ u. eqb u t) ws) (zeroed_length ∙ sym (wiped_length (λ w. eqb (w / 512) t) 0 ws))
      (λ j l. zeroed_at j ∙ sym (wiped_at (λ w. eqb (w / 512) t) ws j))

set_wiped : (ms : List ℕ) (t : ℕ) → t < length ms → set ms t 0 ≡ wiped_marks (λ u. eqb u t) ms
set_wiped ms t h =
    ext_get_or 0 (set ms t 0) (wiped_marks (λ u. eqb u t) ms) (length-set ms t 0 ∙ sym (wiped_length (λ u. eqb u t) 0 ms)) (λ j l. go j (ℕ_discrete j t))
  where
    go : (j : ℕ) → Dec (j ≡ t) → get_or (set ms t 0) j 0 ≡ get_or (wiped_marks (λ u. eqb u t) ms) j 0
    go j (yes e) = rw e (get_or-set_same ms t 0 0 h) ∙ sym (wiped_in (λ u. eqb u t) ms j (eq-eqb j t e))
    go j (no n) = get_or-set_other ms t j 0 0 n ∙ sym (wiped_out (λ u. eqb u t) ms j (ne_eqb j t n))

-- ---- the tables that p says are given back

abbrev pub give_back : (ℕ → Bool) → List ℕ → List ℕ → Trees
give_back p ws ms = trees (wiped_words p ws) (wiped_marks p ms) (many p (length ms))

module _ (p : ℕ → Bool) (ws ms : List ℕ) where
  -- as another p says
  pub give_same : (q : ℕ → Bool) → ((u : ℕ) → p u ≡ q u) → give_back p ws ms ≡ give_back q ws ms
  give_same q h = ap (λ (r : ℕ → Bool). give_back r ws ms) (fun_ext h)

  -- and then those of q, which are others
  pub give_again : (q : ℕ → Bool) → ((u : ℕ) → p u ≡ true → q u ≡ true → ⊥)
      → add (give_back p ws ms) (give_back q (wiped_words p ws) (wiped_marks p ms)) ≡ give_back (λ u. p u || q u) ws ms
  give_again q h =
      let c : many p (length ms) + many q (length (wiped_marks p ms)) ≡ many (λ u. p u || q u) (length ms) =
      ap (λ (n : ℕ). many p (length ms) + many q n) (wiped_length p 0 ms) ∙ many_or p q (length ms) h in
      λ i. trees (wiped_again (λ w. p (w / 512)) (λ w. q (w / 512)) 0 ws i) (wiped_again p q 0 ms i) (c i)

  -- and then table t, which is another
  pub give_table : (t : ℕ) → t < length ms → length ws ≡ 512 * length ms → (p t ≡ true → ⊥)
      → wipe t (give_back p ws ms) ≡ give_back (λ u. p u || eqb u t) ws ms
  give_table t l e h =
      let a : zeroed (wiped_words p ws) t ≡ wiped_words (λ u. eqb u t) (wiped_words p ws) =
      zeroed_wiped (wiped_words p ws) t (simp wiped_length (omega arith)) in
      let b : set (wiped_marks p ms) t 0 ≡ wiped_marks (λ u. eqb u t) (wiped_marks p ms) = set_wiped (wiped_marks p ms) t (simp wiped_length l) in
      let c : many p (length ms) + 1 ≡ many p (length ms) + many (λ u. eqb u t) (length (wiped_marks p ms)) =
      ap (λ (n : ℕ). many p (length ms) + n) (sym (many_one t (length (wiped_marks p ms)) (simp wiped_length l))) in
      (λ i. trees (a i) (b i) (c i)) ∙ give_again (λ u. eqb u t) other
    where
      other : (u : ℕ) → p u ≡ true → eqb u t ≡ true → ⊥
      other u y z = h (sym (ap p (eqb-true u t z)) ∙ y)

-- none
pub give_none : (ws ms : List ℕ) → trees ws ms 0 ≡ give_back (λ _. false) ws ms
give_none ws ms =
    let c : 0 ≡ many (λ _. false) (length ms) = sym (sum_zero (λ _. cond false 1 0) (length ms) (λ u l. refl)) in
    λ i. trees (wiped_none 0 ws i) (wiped_none 0 ms i) (c i)
