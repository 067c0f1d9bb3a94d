-- Text in a lent slice: nothing, and one text after another. Assumes nothing.
use mathlib.Core.Path.{◌≡◌, refl, sym, ◌∙◌, ap}
use mathlib.Core.List.{List, [], ◌∷◌, ◌++◌, append_assoc, append-nil}
use Prim.Native.Nat.{ℕ, zero, suc}
use native.Mathlib.Omega.{arith}
use lib.ListN.{length, take, length-take}
use lib.Seq.{take_all}
use Rattle.text.specs.declared.text.Text.{Text}
use Rattle.text.specs.Text.{written, Wrote}

-- what is cut off may be cut off later
pub clip : (n : ℕ) (x u : List ℕ) → take n (take n x ++ u) ≡ take n (x ++ u)
clip zero x u = refl
clip (suc n) [] u = refl
clip (suc n) (y ∷ x) u = ap (λ (l : List ℕ). y ∷ l) (clip n x u)

pub wrote_none : (t : Text) → Wrote t [] t
wrote_none t = record { same_reference = refl; room = refl; bytes = sym (ap (take (length t.out.now)) (append-nil (written t)) ∙ take_all (length t.out.now) (written t) (simp length-take (omega arith))) }

-- one text after another
pub wrote_then : {t₀ t₁ t₂ : Text} {x y : List ℕ} → Wrote t₀ x t₁ → Wrote t₁ y t₂ → Wrote t₀ (x ++ y) t₂
wrote_then {t₀} {x = x} {y} w v = record {
  same_reference = v.same_reference ∙ w.same_reference;
  room = v.room ∙ w.room;
  bytes = v.bytes ∙ rw (w.room, w.bytes) (clip (length t₀.out.now) (written t₀ ++ x) y ∙ ap (take (length t₀.out.now)) (append_assoc (written t₀) x y));
}
