-- Walks before and after a change of one word, in slot m. It stands at level 0, or the words below it are read as before: so it is
-- when it was 0 and now points to a table of zeros. Assumes nothing.
use mathlib.Core.Path.{◌≡◌, sym, ap, ◌∙◌}
use Prim.Native.Nat.{ℕ, zero, suc, ◌+◌, ◌*◌, ◌/◌, ◌%◌, ◌≤◌, ◌<◌}
use native.Mathlib.Omega.{arith}
use native.Mathlib.Decide.{ℕ_discrete}
use Rattle.store.specs.Level.{home}
use Rattle.store.specs.Walk.{slot_in, slot}
use Rattle.store.proofs.Tree.{Tree, top}
use Rattle.store.proofs.Walk.{depth, unique}
use Rattle.walk.proofs.Spans.{Upd}

module _ {a k f lv : ℕ → ℕ} (w : Tree a k f lv) (a' : ℕ → ℕ) (m v : ℕ) (ua : Upd a a' m v) (m2 : 2 ≤ m)
    (alike : 1 ≤ lv (home m) → (i : ℕ) → i < 512 → a' (slot_in v i) ≡ a (slot_in (a m) i)) where
  -- a walk that does not end at m reads what it read, and one that ended at m still does
  pub walk : (r d x : ℕ) → k r ≡ 1 → top d x < 512 → d ≤ 2
      → ((slot a r d x ≡ m → ⊥) → a' (slot a' r d x) ≡ a (slot a r d x)) × (slot a r d x ≡ m → slot a' r d x ≡ m)
  unfolding slot top
  walk r zero x rr h b = (λ n. ua.other (512 * r + x + 2) n, λ e. e)
  walk r (suc d) x rr h b = go (walk r d (x / 512) rr h (omega arith)) (ℕ_discrete (slot a r d (x / 512)) m)
    where
      i : ℕ
      i = x % 512

      go : ((slot a r d (x / 512) ≡ m → ⊥) → a' (slot a' r d (x / 512)) ≡ a (slot a r d (x / 512))) × (slot a r d (x / 512) ≡ m → slot a' r d (x / 512) ≡ m)
          → Dec (slot a r d (x / 512) ≡ m)
          → ((slot a r (suc d) x ≡ m → ⊥) → a' (slot a' r (suc d) x) ≡ a (slot a r (suc d) x)) × (slot a r (suc d) x ≡ m → slot a' r (suc d) x ≡ m)
      go ih (no n) = let e = ap (λ (z : ℕ). slot_in z i) (ih.0 n) in (λ n'. ap a' e ∙ ua.other (slot a r (suc d) x) n', λ e'. e ∙ e')
      go ih (yes y) =
          let l = depth w r d (x / 512) rr h (omega arith) (omega arith) in (
            λ n'. ap (λ (z : ℕ). a' (slot_in (a' z) i)) (ih.1 y) ∙ ap (λ (z : ℕ). a' (slot_in z i)) ua.same
                ∙ alike (omega (arith, l, ap (λ (z : ℕ). lv (home z)) y)) i (omega arith) ∙ ap (λ (z : ℕ). a (slot_in (a z) i)) (sym y),
            λ e'. absurd (omega (arith, l, depth w r (suc d) x rr h b (omega arith), ap (λ (z : ℕ). lv (home z)) (y ∙ sym e'))),
          )

  -- m is the slot that root r₀'s walk reads at depth d₀ for x₀: this walk, and all others
  module _ (r₀ d₀ x₀ : ℕ) (rr₀ : k r₀ ≡ 1) (h₀ : top d₀ x₀ < 512) (b₀ : d₀ ≤ 2) (e₀ : slot a r₀ d₀ x₀ ≡ m) where
    pub here : a' (slot a' r₀ d₀ x₀) ≡ v
    here = ap a' ((walk r₀ d₀ x₀ rr₀ h₀ b₀).1 e₀) ∙ ua.same

    pub elsewhere : (r d x : ℕ) → k r ≡ 1 → top d x < 512 → d ≤ 2 → (d ≡ d₀ → r ≡ r₀ → x ≡ x₀ → ⊥) → a' (slot a' r d x) ≡ a (slot a r d x)
    elsewhere r d x rr h b n =
        (walk r d x rr h b).0 (λ e. let u = unique w r d x r₀ d₀ x₀ rr rr₀ h h₀ b b₀ (omega arith) (e ∙ sym e₀) in n u.0 u.1 u.2)
