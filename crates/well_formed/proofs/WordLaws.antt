-- What each way out of the scans of words says. Assumes nothing.
use mathlib.Core.Path.{◌≡◌, sym, subst, ap, ◌∙◌}
use mathlib.Core.Logic.{◌⊎◌, inl, inr, ⊎_elim, by_cases}
use mathlib.Core.List.{List}
use mathlib.Core.Bool.{Bool, true, false}
use Prim.Native.Nat.{ℕ, ◌+◌, ◌*◌, ◌/◌, ◌%◌, ◌^◌, ◌≤◌, ◌<◌}
use native.Mathlib.Decide.{dec_lt}
use native.Mathlib.Omega.{arith}
use Rattle.std.proofs.Common.{Option, Some, None, length, slice_range}
use Rattle.std.specs.Bool.{then_some}
use Rattle.address.specs.Field.{bit}
use Rattle.store.specs.Says.{Says}
use Rattle.store.specs.Store.{word, mark}
use Rattle.store.specs.Level.{level}
use Rattle.store.specs.WellFormed.{Points}
use Rattle.store.proofs.Sums.{same_times, same_none, same_no}
use Rattle.store.proofs.Tests.{says_map}
use Rattle.store.proofs.Levels.{level_free, level_root, root_level}
use Rattle.well_formed.specs.Scan.{Zeros, Pointers, Root, Shape, Shapes, OrOf, FlagsOf, Over, Finds, in_window, windowed, leaf_windowed, WordOk, WordsOk}
use Rattle.well_formed.proofs.Parts.{each_to, each_back, over_to, over_zero}
use Rattle.well_formed.proofs.Slices.{part_length, part_word, part_to, part_back}

-- what is found of the first n words is found of the n words from a on, for a claim and a count that agree
pub finds_to : {P Q : Type 0} → (P → Q) → (Q → P) → (g h : ℕ → ℕ) (a n : ℕ) → ((k : ℕ) → k < n → g k ≡ h (a + k)) → (r : Option ℕ) → Finds P g 0 n r → Finds Q h a (a + n) r
finds_to to back g h a n agree None f = λ q. f (back q)
finds_to to back g h a n agree (Some m) f = (to f.0, over_to g h a n m agree f.1)

-- a scan that only says, of a part in which nothing is counted
pub finds_none : (P : Type 0) (h : ℕ → ℕ) (a e : ℕ) → a ≤ e → ((k : ℕ) → a ≤ k → k < e → h k ≡ 0) → (b : Bool) → Says b P → Finds P h a e (then_some b 0)
finds_none P h a e l none true s = (s, over_zero h a e l none)
finds_none P h a e l none false s = s

-- a part of level-0 words whose or is x, and the or of whose flags is y
module _ (ws : List ℕ) (a e : ℕ) (l : a ≤ e) (x : ℕ) (o : OrOf ws a e x) where
  pub leaves_zero : x ≡ 0 → Finds (Shapes ws a e) (windowed ws) a e (Some 0)
  leaves_zero z = (
    λ k p q. record { valid = inl (zero k p q); clear = omega (arith, zero k p q) },
    over_zero (windowed ws) a e l (λ k p q. same_no (word ws k / 2 ^ 27) 8 (λ h. omega (arith, zero k p q))),
  )
    where
      zero : (k : ℕ) → a ≤ k → k < e → word ws k ≡ 0
      zero k p q = omega (arith, o.above k p q)

  pub leaves_high : 2 ^ 54 ≤ x → Finds (Shapes ws a e) (windowed ws) a e None
  leaves_high h = λ all. omega (arith, o.within 54 (λ k p q. (all k p q).clear))

  module _ (y : ℕ) (f : FlagsOf ws a e y) where
    pub leaves_count : x < 2 ^ 54 → y % 2 ≡ 0 → (n : ℕ) → Over (windowed ws) a e n → Finds (Shapes ws a e) (windowed ws) a e (Some n)
    leaves_count s v n x = (λ k p q. record { valid = f.odd v k p q; clear = omega (arith, o.above k p q) }, x)

    -- a word of the held window has bit 30
    pub leaves_out : x < 2 ^ 54 → y % 2 ≡ 0 → bit 30 x ≡ 0 → Finds (Shapes ws a e) (windowed ws) a e (Some 0)
    leaves_out s v z = leaves_count s v 0 (over_zero (windowed ws) a e l (λ k p q. same_no (word ws k / 2 ^ 27) 8 (λ h. omega (arith, o.bits 30 z k p q))))

module _ (ws ms : List ℕ) (w : ℕ) where
  word_zero : word ws w ≡ 0 → WordOk ws ms w
  word_zero z = record { w1 = λ _. z; w3 = λ _. inl z; w3_root = λ _ _. z; w4 = λ _. record { valid = inl z; clear = omega arith } }

  module _ (l : ℕ) (el : l ≡ level ms (w / 512)) where
    word_leaf : l ≡ 0 → Shape (word ws w) → WordOk ws ms w
    word_leaf z p =
        record {
          w1 = λ q. absurd (omega (arith, level_free ms (w / 512) q));
          w3 = λ i. absurd (⊎_elim (λ q. omega arith) (λ q. omega arith) i);
          w3_root = λ q. absurd (omega (arith, level_root ms (w / 512) q));
          w4 = λ _. p;
        }

    word_inner : (l ≡ 1) ⊎ ((l ≡ 2) × (w % 512 < 256)) → (word ws w ≡ 0) ⊎ Points ws ms w → WordOk ws ms w
    word_inner z p =
        record {
          w1 = λ q. absurd (⊎_elim (λ y. omega (arith, level_free ms (w / 512) q)) (λ y. omega (arith, level_free ms (w / 512) q)) z);
          w3 = λ _. p;
          w3_root = λ q h. absurd (⊎_elim (λ y. omega (arith, level_root ms (w / 512) q)) (λ y. omega arith) z);
          w4 = λ q. absurd (⊎_elim (λ y. omega arith) (λ y. omega arith) z);
        }

    word_lost : (l ≡ 0 → ⊥) → (l ≡ 1 → ⊥) → (l ≡ 2 → ⊥) → (mark ms (w / 512) ≡ 0 → ⊥) → WordOk ws ms w
    word_lost n0 n1 n2 h =
        record {
          w1 = λ q. absurd (h q);
          w3 = λ i. absurd (⊎_elim (λ q. n2 (el ∙ q)) (λ q. n1 (el ∙ q)) i);
          w3_root = λ q. absurd (n2 (el ∙ level_root ms (w / 512) q));
          w4 = λ q. absurd (n0 (el ∙ q));
        }

-- the words of table t, of level l, which are the part tb
module _ (ws ms : List ℕ) (t l : ℕ) (el : l ≡ level ms t) where
  abbrev All : Type 0
  All = WordsOk ws ms (512 * t) (512 * t + 512)

  table : (k : ℕ) → 512 * t ≤ k → k < 512 * t + 512 → t ≡ k / 512
  table k p q = omega arith

  at : (k : ℕ) → 512 * t ≤ k → k < 512 * t + 512 → l ≡ level ms (k / 512)
  at k p q = el ∙ ap (level ms) (table k p q)

  marked : (k : ℕ) → 512 * t ≤ k → k < 512 * t + 512 → mark ms t ≡ mark ms (k / 512)
  marked k p q = ap (mark ms) (table k p q)

  here : (k : ℕ) → k < 512 → l ≡ level ms ((512 * t + k) / 512)
  here k h = at (512 * t + k) (omega arith) (omega arith)

  -- other levels than 0 count nothing
  uncounted : (l ≡ 0 → ⊥) → (k : ℕ) → 512 * t ≤ k → k < 512 * t + 512 → leaf_windowed ws ms k ≡ 0
  uncounted n k p q = same_none (level ms (k / 512)) 0 (in_window (word ws k)) (λ e. n (at k p q ∙ e))

  -- so a scan of such a table only says
  says_table : {P : Type 0} → (l ≡ 0 → ⊥) → (P → All) → (All → P) → (b : Bool) → Says b P → Finds All (leaf_windowed ws ms) (512 * t) (512 * t + 512) (then_some b 0)
  says_table n to back b s = finds_none All (leaf_windowed ws ms) (512 * t) (512 * t + 512) (omega arith) (uncounted n) b (says_map b to back s)

  pub inner_table : l ≡ 1 → (b : Bool) → Says b (Pointers ws ms (512 * t) (512 * t + 512)) → Finds All (leaf_windowed ws ms) (512 * t) (512 * t + 512) (then_some b 0)
  inner_table z =
      says_table (λ e. omega arith) (λ all k p q. word_inner ws ms k l (at k p q) (inl z) (all k p q)) (λ ok k p q. (ok k p q).w3 (inr (sym (at k p q) ∙ z)))

  pub root_table : l ≡ 2 → (b : Bool) → Says b (Root ws ms (512 * t)) → Finds All (leaf_windowed ws ms) (512 * t) (512 * t + 512) (then_some b 0)
  root_table z =
      says_table (λ e. omega arith)
      (λ f k p q.
      by_cases (dec_lt k (512 * t + 256))
      (λ s. word_inner ws ms k l (at k p q) (inr (z, omega arith)) (f.low k p s))
      (λ s. word_zero ws ms k (f.high k (omega arith) q)))
      (λ ok. record {
        low = λ k p q. (ok k p (omega arith)).w3 (inl (sym (at k p (omega arith)) ∙ z));
        high = λ k p q. (ok k (omega arith) q).w3_root (root_level ms (k / 512) (sym (at k (omega arith) q) ∙ z)) (omega arith);
      })

  pub lost_table : (l ≡ 0 → ⊥) → (l ≡ 1 → ⊥) → (l ≡ 2 → ⊥) → (mark ms t ≡ 0 → ⊥) → Finds All (leaf_windowed ws ms) (512 * t) (512 * t + 512) (Some 0)
  lost_table n0 n1 n2 h =
      (λ k p q. word_lost ws ms k l (at k p q) n0 n1 n2 (λ z. h (marked k p q ∙ z)), over_zero (leaf_windowed ws ms) (512 * t) (512 * t + 512) (omega arith) (uncounted n0))

  module _ (fits : 512 * t + 512 ≤ length ws) where
    abbrev part : List ℕ
    part = slice_range ws (512 * t) (512 * t + 512)

    size : length part ≡ 512
    size = omega (arith, part_length ws (512 * t) (512 * t + 512) (omega arith) fits)

    word_at : (k : ℕ) → k < 512 → word part k ≡ word ws (512 * t + k)
    word_at k h = part_word ws (512 * t) (512 * t + 512) (omega arith) fits k (omega arith)

    pub leaf_table : l ≡ 0 → (r : Option ℕ) → Finds (Shapes part 0 (length part)) (windowed part) 0 (length part) r → Finds All (leaf_windowed ws ms) (512 * t) (512 * t + 512) r
    leaf_table z r f =
        finds_to (each_to (λ k. Shape (word part k)) (WordOk ws ms) (512 * t) 512 (λ k h s. word_leaf ws ms (512 * t + k) l (here k h) z (subst Shape (word_at k h) s)))
        (each_back (λ k. Shape (word part k)) (WordOk ws ms) (512 * t) 512 (λ k h ok. subst Shape (sym (word_at k h)) (ok.w4 (sym (here k h) ∙ z)))) (windowed part) (leaf_windowed ws ms) (512 * t) 512
        (λ k h. ap in_window (word_at k h) ∙ sym (same_times (level ms ((512 * t + k) / 512)) 0 (in_window (word ws (512 * t + k))) (sym (here k h) ∙ z))) r
        (subst (λ (n : ℕ). Finds (Shapes part 0 n) (windowed part) 0 n r) size f)

    pub free_table : mark ms t ≡ 0 → (b : Bool) → Says b (Zeros part 0 (length part)) → Finds All (leaf_windowed ws ms) (512 * t) (512 * t + 512) (then_some b 0)
    free_table z =
        says_table (λ e. omega (arith, level_free ms t z))
        (λ all k p q. word_zero ws ms k (part_to ws (512 * t) (512 * t + 512) (omega arith) fits (λ x. x ≡ 0) all k p q))
        (λ ok. part_back ws (512 * t) (512 * t + 512) (omega arith) fits (λ x. x ≡ 0) (λ k p q. (ok k p q).w1 (sym (marked k p q) ∙ z)))
