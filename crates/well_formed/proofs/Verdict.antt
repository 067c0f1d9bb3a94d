-- From the scans to W1 to W5, and back; and that the check answers in one way. Assumes nothing.
use mathlib.Core.Path.{◌≡◌, sym, ◌∙◌, subst⁻¹}
use mathlib.Core.Logic.{◌⊎◌, inl, inr, ⊎_elim}
use mathlib.Core.List.{List}
use Prim.Native.Nat.{ℕ, ◌-◌, ◌/◌, ◌^◌, ◌<◌}
use native.Mathlib.Nat.{zero-add, eq-zero-or-pos}
use native.Mathlib.Decide.{ℕ_discrete, dec_lt}
use native.Mathlib.Omega.{arith}
use lib.ListN.{length}
use Rattle.std.specs.Prelude.{Result, Err}
use Rattle.refusal.specs.declared.Refusal.{Refusal}
use Rattle.refusal.specs.Number.{number_of}
use Rattle.store.specs.Sum.{sum}
use Rattle.store.specs.Count.{free}
use Rattle.store.specs.Store.{Store, Sized, word, mark, frame_no}
use Rattle.store.specs.Level.{level}
use Rattle.store.specs.WellFormed.{Outside, Held, Leaf, WellFormed}
use Rattle.store.specs.Outcome.{Smallest, NoReason}
use Rattle.store.proofs.Sums.{same_yes, same_one, at_most}
use Rattle.store.proofs.Taken.{taken, free_taken, taken_some}
use Rattle.store.proofs.Outcomes.{one_outcome}
use Rattle.well_formed.specs.Check.{CheckReason, sizes, YesNo, CheckDone, Check, Judged}
use Rattle.well_formed.specs.Scan.{Shape, Over, in_window, leaf_windowed, WordsOk, TableOk, FrameOk}
use Rattle.well_formed.proofs.Pool.{all_held, counts_equal}

-- a frame number in the held window is that of a word whose bits 27 and up are 8
outside : (x : ℕ) → (x / 2 ^ 27 ≡ 8 → ⊥) → Outside (x / 1024)
outside x n = go (dec_lt (x / 1024) 0x10_0000) (dec_lt (x / 1024) 0x12_0000)
  where
    go : Dec (x / 1024 < 0x10_0000) → Dec (x / 1024 < 0x12_0000) → Outside (x / 1024)
    go (yes l) d = inl l
    go (no g) (yes l) = absurd (n (omega arith))
    go (no g) (no h) = inr (omega arith)

inside : (x : ℕ) → x / 2 ^ 27 ≡ 8 → Outside (x / 1024) → ⊥
inside x e = ⊎_elim (λ l. omega arith) (λ l. omega arith)

module _ (s : Store) (z : Sized s) where
  abbrev ws : List ℕ
  ws = s.words

  abbrev ms : List ℕ
  ms = s.tmarks

  abbrev fs : List ℕ
  fs = s.fmarks

  -- the whole count, as the scan of all words gives it
  pub counted : (n : ℕ) → Over (leaf_windowed ws ms) 0 (length ws) n → sum (leaf_windowed ws ms) (length ws) ≡ n
  unfolding sum
  counted n x = sym x.adds ∙ zero-add n

  -- the count of frames in use is F less the free ones
  used_count : (n : ℕ) → n ≡ length fs - free fs → sum (λ f. taken (mark fs f)) (length fs) ≡ n
  used_count n e = omega (arith, free_taken fs)

  -- where no frame is in use, W5 has nothing to say
  pub none_used : length fs - free fs ≡ 0 → (f : ℕ) → f < length fs → FrameOk ws ms fs f
  none_used e f l =
      ⊎_elim inl
      (λ p. absurd (omega (arith, at_most (λ g. taken (mark fs g)) (length fs) f l, used_count 0 (sym e), taken_some (mark fs f) (λ z. omega arith))))
      (eq-zero-or-pos (mark fs f))

  module _ (tables : (t : ℕ) → t < length ms → TableOk ws ms t) (words : WordsOk ws ms 0 (length ws)) (frames : (f : ℕ) → f < length fs → FrameOk ws ms fs f)
      (n : ℕ) (en : n ≡ length fs - free fs) (eq : sum (leaf_windowed ws ms) (length ws) ≡ n) where
    leaf : (w : ℕ) → w < length ws → level ms (w / 512) ≡ 0 → (word ws w ≡ 0) ⊎ Leaf ws fs w
    leaf w l e = ⊎_elim inl (λ v. inr (record { valid = v; clear = ((words w (omega arith) l).w4 e).clear; frame = go (ℕ_discrete (word ws w / 2 ^ 27) 8) })) ((words w (omega arith) l).w4 e).valid
      where
        go : Dec (word ws w / 2 ^ 27 ≡ 8) → Outside (frame_no (word ws w)) ⊎ Held fs (frame_no (word ws w)) w
        go (no d) = inl (outside (word ws w) d)
        go (yes d) = inr (all_held ws ms fs frames z.frames_to (eq ∙ sym (used_count n en)) w l e (same_yes (word ws w / 2 ^ 27) 8 d))

    pub formed : WellFormed s
    formed =
        record {
          w1 = λ w l. (words w (omega arith) l).w1;
          w2 = tables;
          w3 = λ w l. (words w (omega arith) l).w3;
          w3_root = λ w l. (words w (omega arith) l).w3_root;
          w4 = leaf;
          w5 = frames;
        }

  module _ (wf : WellFormed s) where
    shape : (w : ℕ) → w < length ws → level ms (w / 512) ≡ 0 → Shape (word ws w)
    shape w l e = ⊎_elim (λ y. record { valid = inl y; clear = omega arith }) (λ q. record { valid = inr q.valid; clear = q.clear }) (wf.w4 w l e)

    pub words_of : WordsOk ws ms 0 (length ws)
    words_of w _ l = record { w1 = wf.w1 w l; w3 = wf.w3 w l; w3_root = wf.w3_root w l; w4 = shape w l }

    pub count_of : (n : ℕ) → n ≡ length fs - free fs → sum (leaf_windowed ws ms) (length ws) ≡ n
    count_of n en = counts_equal ws ms fs wf.w5 z.frames_to held ∙ used_count n en
      where
        held : (w : ℕ) → w < length ws → level ms (w / 512) ≡ 0 → in_window (word ws w) ≡ 1 → Held fs (frame_no (word ws w)) w
        held w l e i =
            let d : word ws w / 2 ^ 27 ≡ 8 = same_one (word ws w / 2 ^ 27) 8 (omega arith) in
            ⊎_elim (λ y. absurd (omega arith)) (λ q. ⊎_elim (λ o. absurd (inside (word ws w) d o)) (λ h. h) q.frame) (wf.w4 w l e)

-- the check's one reason, and that it answers in one way
module _ (s : Store) where
  pub no_1 : (Sized s → ⊥) → Smallest (CheckReason s) 1
  no_1 h = record { applies = sizes h; least = only }
    where
      only : (k : ℕ) → k < 1 → CheckReason s k → ⊥
      only k l (sizes g) = omega arith

  pub clear : Sized s → NoReason (CheckReason s)
  clear z k (sizes h) = h z

  one_value : {P : Type 0} (v v' : ℕ) → YesNo v P → YesNo v' P → v ≡ v'
  one_value v v' (inl p) (inl q) = p.0 ∙ sym q.0
  one_value v v' (inl p) (inr q) = absurd (q.1 p.1)
  one_value v v' (inr p) (inl q) = absurd (p.1 q.1)
  one_value v v' (inr p) (inr q) = p.0 ∙ sym q.0

  pub one_check : (a a' : Result ℕ Refusal) → Check s a → Check s a' → a ≡ a'
  one_check a a' p q =
      (one_outcome (CheckReason s) (CheckDone s) (λ v v' t t' x y. (one_value v v' x.0 y.0, x.1 ∙ sym y.1)) s a a' s s p q).0

-- what a call learns where the judge refuses: a reason 1 or 2
pub judged_no : (s : Store) (R : ℕ → Type 0) → ((Sized s → ⊥) → Smallest R 1) → (Sized s → (WellFormed s → ⊥) → Smallest R 2) → (r : Refusal) → Judged s (Err r) → Smallest R (number_of r)
judged_no s R one two r (inl p) = subst⁻¹ (Smallest R) p.0 (one p.1)
judged_no s R one two r (inr p) = subst⁻¹ (Smallest R) p.0 (two p.1 p.2)
