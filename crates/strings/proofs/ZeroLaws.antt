-- The first zero of a list by its steps, and whether the least of a list is zero. Assumes nothing.
use mathlib.Core.Path.{◌≡◌, refl, sym, ap, subst₂, ◌∙◌}
use mathlib.Core.Bool.{Bool, true, false, not, cond}
use mathlib.Core.List.{List, [], ◌∷◌, ◌++◌}
use Prim.Native.Nat.{ℕ, zero, suc, ◌+◌, ◌*◌, ◌/◌, ◌≤◌, ◌<◌, min}
use native.Mathlib.Nat.{add-div_left, div-eq_of_lt, mul-zero}
use native.Mathlib.Omega.{arith}
use lib.Dec.{eqb, eqb-suc-zero, eqb-zero-suc, eqb-suc-suc}
use lib.ListN.{length, take, drop, length-drop, length-append}
use lib.Seq.{take_at, drop_at}
use Rattle.std.specs.List.{fold, prefix_len}
use Rattle.std.proofs.lemmas.Bool.{eqb-true}
use Rattle.std.proofs.lemmas.Iterator.{YieldsList}
use Rattle.std.proofs.lemmas.Iterator.Splits.{YieldsList-from_shown_while}
use Rattle.std.proofs.lemmas.List.Folds.{fold_stays}
use Rattle.std.specs.Slice.Iter.{chunks_exact_rest, chunks_exact_size, chunks_exact_steps}
use Rattle.store.specs.Count.{lowest}

-- no number is zero exactly if the least is not
pub least_tells : (a : ℕ) (l : List ℕ) → not (eqb (fold (λ x y. min x y) (suc a) l) 0) ≡ eqb (lowest l) (length l)
least_tells a [] = ap not (eqb-suc-zero a)
least_tells a (zero ∷ l) =
    let e : min (suc a) 0 ≡ 0 = omega arith in
    ap (λ (x : ℕ). not (eqb (fold (λ y z. min y z) x l) 0)) e ∙ ap (λ (x : ℕ). not (eqb x 0)) (fold_stays (λ y z. min y z) 0 (λ x. omega arith) l) ∙ sym (eqb-zero-suc (length l))
least_tells a (suc x ∷ l) =
    let e : min (suc a) (suc x) ≡ suc (min a x) = omega arith in
    ap (λ (y : ℕ). not (eqb (fold (λ z w. min z w) y l) 0)) e ∙ least_tells (min a x) l ∙ sym (eqb-suc-suc (lowest l) (length l))

-- the first n steps of k numbers
abbrev pub steps : ℕ → ℕ → List ℕ → List (List ℕ)
steps k zero l = []
steps k (suc n) l = take k l ∷ steps k n (drop k l)

-- all whole ones
abbrev pub whole_steps : ℕ → List ℕ → List (List ℕ)
whole_steps k l = steps k (length l / k) l

one_step : (k : ℕ) (x r l : List ℕ) → 0 < k → l ≡ x ++ r → length x ≡ k → whole_steps k l ≡ x ∷ whole_steps k r
one_step k x r l h e n =
    let m : length l ≡ k + length r = ap length e ∙ omega (arith, length-append x r) in
    let q : length l / k ≡ suc (length r / k) = ap (λ (y : ℕ). y / k) m ∙ add-div_left (length r) h ∙ omega arith in
    ap (λ (y : ℕ). steps k y l) q ∙ ap (λ (y : List ℕ). take k y ∷ steps k (length r / k) (drop k y)) e
    ∙ ap (λ (y : List ℕ). y ∷ steps k (length r / k) (drop k (x ++ r))) (take_at x r k n) ∙ ap (λ (y : List ℕ). x ∷ steps k (length r / k) y) (drop_at x r k n)

no_step : (k : ℕ) (l : List ℕ) → length l < k → length (whole_steps k l) ≡ 0
no_step k l h = ap (λ (n : ℕ). length (steps k n l)) (div-eq_of_lt h)

-- they are what `chunks_exact` gives
pub steps_yielded : {s : _} (k : ℕ) (l : List ℕ) → 0 < k → chunks_exact_size s ≡ k → chunks_exact_rest s ≡ l → YieldsList (chunks_exact_steps {A = ℕ}) (λ x. x.now) s (whole_steps k l)
steps_yielded {s} k l h e f =
    subst₂ (λ (j : ℕ) (m : List ℕ). YieldsList (chunks_exact_steps {A = ℕ}) (λ x. x.now) s (whole_steps j m)) e f
    (YieldsList-from_shown_while (chunks_exact_steps {A = ℕ}) (λ x. x.now) (λ t. whole_steps (chunks_exact_size t) (chunks_exact_rest t)) (λ t. 0 < chunks_exact_size t)
    (λ t u p g. no_step (chunks_exact_size t) (chunks_exact_rest t) g.1.0)
    (λ t x u p g. (
      omega (arith, g.0),
      one_step (chunks_exact_size t) x.now (chunks_exact_rest u) (chunks_exact_rest t) p g.1.0 g.1.1 ∙ ap (λ (j : ℕ). x.now ∷ whole_steps j (chunks_exact_rest u)) (sym g.0),
    ))
    s (omega (arith, e)))

lowest_step : (k : ℕ) (l : List ℕ) → k ≤ length l → lowest (take k l) ≡ length (take k l) → k + lowest (drop k l) ≤ lowest l
lowest_step zero l h e = omega arith
lowest_step (suc k) [] h e = absurd (omega arith)
lowest_step (suc k) (zero ∷ l) h e = absurd (omega arith)
lowest_step (suc k) (suc x ∷ l) h e = omega (arith, lowest_step k l (omega arith) (omega arith))

abbrev pub passes : List ℕ → Bool
passes l = eqb (lowest l) (length l)

-- one more step, of which p are passed behind it
passed_step : (k p : ℕ) (l : List ℕ) (b : Bool) → k ≤ length l → passes (take k l) ≡ b → k * p ≤ lowest (drop k l) → k * cond b (1 + p) 0 ≤ lowest l
passed_step k p l false h e i = rw mul-zero (omega arith)
passed_step k p l true h e i = omega (arith, lowest_step k l h (eqb-true _ _ e))

-- the steps before the first one with a zero come before the first zero
pub steps_passed : (k n : ℕ) (l : List ℕ) → k * n ≤ length l → k * prefix_len passes (steps k n l) ≤ lowest l
steps_passed k zero l h = rw mul-zero (omega arith)
steps_passed k (suc n) l h =
    passed_step k (prefix_len passes (steps k n (drop k l))) l _ (omega arith) refl (steps_passed k n (drop k l) (omega (arith, length-drop k l)))
