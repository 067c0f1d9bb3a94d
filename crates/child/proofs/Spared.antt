-- A root and the frames in use while another root gets fresh frames: its pages, and these frames, stay as they were. Assumes nothing.
use mathlib.Core.Path.{◌≡◌, refl, sym, ap, ◌∙◌}
use mathlib.Core.List.{List}
use Prim.Native.Nat.{ℕ, ◌^◌, ◌<◌}
use native.Mathlib.Omega.{arith}
use lib.ListN.{length}
use Rattle.store.specs.Store.{Store, Sized, mark}
use Rattle.store.specs.Walk.{resolve}
use Rattle.store.proofs.Tree.{top}
use Rattle.enter.proofs.EnterPage.{part}
use Rattle.fresh.specs.Grown.{FrameKept}
use Rattle.fresh.proofs.FreshPage.{PageFresh}
use Rattle.fresh.proofs.GrownLaws.{other_frame}

pub record Spared (s₀ : Store) (r : ℕ) (s : Store) : Type 0 where
  pub root : mark s.tmarks r ≡ 1
  pub pages : (x : ℕ) → x < 2 ^ 26 → resolve s r x ≡ resolve s₀ r x
  pub taken : (f : ℕ) → 0 < mark s₀.fmarks f → FrameKept s₀ f s

-- at the start
pub spared : (s : Store) (r : ℕ) → mark s.tmarks r ≡ 1 → Spared s r s
spared s r e = record { root = e; pages = λ x l. refl; taken = λ f l. record { mark = refl; bytes = λ k h. refl } }

-- after another root has got a page more
pub spared_more : (s₀ : Store) (r : ℕ) (s s' : Store) (r' p q g : ℕ) (b : List ℕ) → Spared s₀ r s → (r' ≡ r → ⊥) → Sized s → length b ≡ 4096
    → PageFresh s s' r' p q g b → Spared s₀ r s'
unfolding top part
spared_more s₀ r s s' r' p q g b k n z l h = record {
  root = (h.roots r).0 k.root;
  pages = λ x a. h.rest r 2 x k.root (omega arith) (omega arith) (λ e d. n (sym e)) ∙ k.pages x a;
  taken = λ f a.
      let o = k.taken f a in
      let y = other_frame s s' r' p q g b z l h f (λ e. omega (arith, o.mark, h.was_free, ap (mark s.fmarks) e)) in
      record { mark = y.mark ∙ o.mark; bytes = λ j m. y.bytes j m ∙ o.bytes j m };
}
