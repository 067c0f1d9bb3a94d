-- What each way out of the tests of one table and one frame says. Assumes nothing.
use mathlib.Core.Path.{◌≡◌, sym, subst, ap, ◌∙◌}
use mathlib.Core.Logic.{⊎_elim}
use mathlib.Core.List.{List}
use Prim.Native.Nat.{ℕ, ◌-◌, ◌≤◌}
use native.Mathlib.Omega.{arith}
use Rattle.store.specs.Store.{word, mark, pointer_to}
use Rattle.store.specs.Level.{home, level}
use Rattle.store.specs.WellFormed.{Inner}
use Rattle.store.proofs.Levels.{level_less}
use Rattle.well_formed.specs.Scan.{TableOk}

module _ (ws ms : List ℕ) (t m : ℕ) (em : m ≡ mark ms t) where
  pub table_astray : (x : ℕ) → x ≡ word ws (m - 2) → 2 ≤ m → (x ≡ pointer_to t → ⊥) → TableOk ws ms t → ⊥
  table_astray x ex h bad ok = bad (ex ∙ ap (λ (k : ℕ). word ws (k - 2)) em ∙ (ok (omega arith)).word)

  pub table_pointed : (x l : ℕ) → x ≡ word ws (m - 2) → l ≡ level ms (home m) → 2 ≤ m → x ≡ pointer_to t → Inner l → TableOk ws ms t
  table_pointed x l ex el h p i two =
      let above = subst Inner (el ∙ ap (λ (k : ℕ). level ms (home k)) em) i in
      record {
        word = sym (ex ∙ ap (λ (k : ℕ). word ws (k - 2)) em) ∙ p;
        above = above;
        less = level_less ms t two above;
      }

  pub table_low : (l : ℕ) → l ≡ level ms (home m) → 2 ≤ m → (l ≡ 2 → ⊥) → TableOk ws ms t → l ≡ 1
  table_low l el h n2 ok =
      let e = el ∙ ap (λ (k : ℕ). level ms (home k)) em in
      ⊎_elim (λ p. absurd (n2 (e ∙ p))) (λ p. e ∙ p) (ok (omega arith)).above
