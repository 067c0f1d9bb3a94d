-- The level of a table, by what its mark and those above it are. Assumes nothing.
use mathlib.Core.Path.{◌≡◌, refl, sym, ap, ◌∙◌}
use mathlib.Core.Logic.{◌⊎◌, inl, inr, ⊎_elim}
use mathlib.Core.List.{List}
use Prim.Native.Nat.{ℕ, zero, suc, ◌≤◌}
use native.Mathlib.Omega.{arith}
use Rattle.store.specs.Store.{mark}
use Rattle.store.specs.Level.{home, lower, under, climb, level}
use Rattle.store.specs.WellFormed.{Inner}

under_two : (m l : ℕ) → 2 ≤ m → under m l ≡ lower l
under_two zero l h = absurd (omega arith)
under_two (suc zero) l h = absurd (omega arith)
under_two (suc (suc m)) l h = refl

module _ (k : ℕ → ℕ) (n t : ℕ) where
  climb_free : k t ≡ 0 → climb k (suc n) t ≡ 3
  unfolding climb
  climb_free e = rw e

  climb_root : k t ≡ 1 → climb k (suc n) t ≡ 2
  unfolding climb
  climb_root e = rw e

  climb_under : 2 ≤ k t → climb k (suc n) t ≡ lower (climb k n (home (k t)))
  unfolding climb
  climb_under h = under_two (k t) (climb k n (home (k t))) h

lower_small : (l : ℕ) → (lower l ≡ 2 → ⊥) × (lower l ≡ 1 → l ≡ 2) × (lower l ≡ 0 → l ≡ 1)
lower_small zero = (λ e. omega arith, λ e. absurd (omega arith), λ e. absurd (omega arith))
lower_small (suc zero) = (λ e. omega arith, λ e. absurd (omega arith), λ e. refl)
lower_small (suc (suc zero)) = (λ e. omega arith, λ e. refl, λ e. absurd (omega arith))
lower_small (suc (suc (suc l))) = (λ e. omega arith, λ e. absurd (omega arith), λ e. absurd (omega arith))

-- a mark is 0, 1, or names a word
pub three : (m : ℕ) → (m ≡ 0) ⊎ (m ≡ 1) ⊎ (2 ≤ m)
three zero = inl refl
three (suc zero) = inr (inl refl)
three (suc (suc m)) = inr (inr (omega arith))

module _ (k : ℕ → ℕ) where
  -- level 2 is that of roots alone, and is seen at the first mark
  climb_two : (n t : ℕ) → climb k (suc n) t ≡ 2 → k t ≡ 1
  climb_two n t e = go (three (k t))
    where
      go : (k t ≡ 0) ⊎ (k t ≡ 1) ⊎ (2 ≤ k t) → k t ≡ 1
      go (inl z) = absurd (omega (arith, climb_free k n t z))
      go (inr (inl o)) = o
      go (inr (inr h)) = absurd ((lower_small (climb k n (home (k t)))).0 (sym (climb_under k n t h) ∙ e))

  -- level 1 is that of tables below a root, and is seen at the second mark
  climb_one : (n t : ℕ) → climb k (suc (suc n)) t ≡ 1 → (2 ≤ k t) × (k (home (k t)) ≡ 1)
  climb_one n t e = go (three (k t))
    where
      go : (k t ≡ 0) ⊎ (k t ≡ 1) ⊎ (2 ≤ k t) → (2 ≤ k t) × (k (home (k t)) ≡ 1)
      go (inl z) = absurd (omega (arith, climb_free k (suc n) t z))
      go (inr (inl o)) = absurd (omega (arith, climb_root k (suc n) t o))
      go (inr (inr h)) = (h, climb_two n (home (k t)) ((lower_small (climb k (suc n) (home (k t)))).1 (sym (climb_under k (suc n) t h) ∙ e)))

  -- the look at three marks and at two agree on levels 2 and 1
  steady : (t : ℕ) → Inner (climb k 3 t) → climb k 2 t ≡ climb k 3 t
  steady t (inl e) = let r = climb_two 2 t e in climb_root k 1 t r ∙ sym e
  steady t (inr e) =
      let r = climb_one 1 t e in
      climb_under k 1 t r.0 ∙ ap lower (climb_root k 0 (home (k t)) r.1) ∙ sym e

module _ (ms : List ℕ) (t : ℕ) where
  pub level_free : mark ms t ≡ 0 → level ms t ≡ 3
  unfolding level
  level_free = climb_free (mark ms) 2 t

  pub level_root : mark ms t ≡ 1 → level ms t ≡ 2
  unfolding level
  level_root = climb_root (mark ms) 2 t

  pub root_level : level ms t ≡ 2 → mark ms t ≡ 1
  unfolding level
  root_level = climb_two (mark ms) 2 t

  -- below a table of level 2 or 1 the level is one less
  pub level_less : 2 ≤ mark ms t → Inner (level ms (home (mark ms t))) → level ms (home (mark ms t)) ≡ suc (level ms t)
  unfolding level
  level_less h i =
      let e = climb_under (mark ms) 2 t h ∙ ap lower (steady (mark ms) (home (mark ms t)) i) in
      ⊎_elim (λ p. p ∙ ap suc (sym (e ∙ ap lower p))) (λ p. p ∙ ap suc (sym (e ∙ ap lower p))) i
