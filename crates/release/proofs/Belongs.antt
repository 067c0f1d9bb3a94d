-- Which tables belong to a table of a tree: those that lie below it by their marks, and it. Assumes nothing.
use mathlib.Core.Path.{◌≡◌, refl, sym, ap, ◌∙◌}
use mathlib.Core.Bool.{Bool, true, false, cond, false≢true}
use Prim.Native.Nat.{ℕ, zero, suc, ◌+◌, ◌≤◌, ◌<◌}
use native.Mathlib.Nat.{add-zero}
use native.Mathlib.Decide.{ℕ_discrete, dec_lt}
use native.Mathlib.Omega.{arith}
use borrow.Author.Tests.{eq-eqb, ne_eqb, lt-ltb, le-ltb}
use lib.Dec.{eqb, ltb}
use Rattle.store.specs.Level.{home}
use Rattle.store.proofs.Tree.{Tree}
use Rattle.store.proofs.Walk.{parent, hangs}
use Rattle.release.specs.Free.{belongs}

-- ---- a mark at a time

module _ (k : ℕ → ℕ) (n t u : ℕ) where
  belongs_self : u ≡ t → belongs k (suc n) t u ≡ true
  unfolding belongs
  belongs_self e = rw (eq-eqb u t e)

  belongs_end : (u ≡ t → ⊥) → k u < 2 → belongs k (suc n) t u ≡ false
  unfolding belongs
  belongs_end e h = rw (ne_eqb u t e, lt-ltb (k u) 2 h)

  belongs_up : (u ≡ t → ⊥) → 2 ≤ k u → belongs k (suc n) t u ≡ belongs k n t (home (k u))
  unfolding belongs
  belongs_up e h = rw (ne_eqb u t e, le-ltb (k u) 2 h)

-- looking at one table
pub belongs_one : (k : ℕ → ℕ) (t u : ℕ) → eqb u t ≡ belongs k 1 t u
unfolding belongs
belongs_one k t u = go (eqb u t) (ltb (k u) 2)
  where
    go : (x y : Bool) → x ≡ cond x true (cond y false false)
    go true y = refl
    go false true = refl
    go false false = refl

-- the table n levels above u
unfoldable pub up : (ℕ → ℕ) → ℕ → ℕ → ℕ
up k zero u = u
up k (suc n) u = up k n (home (k u))

-- the last of the levels first
pub up_last : (k : ℕ → ℕ) (n u : ℕ) → up k (suc n) u ≡ home (k (up k n u))
unfolding up
up_last k zero u = refl
up_last k (suc n) u = up_last k n (home (k u))

module _ {a k f lv : ℕ → ℕ} (w : Tree a k f lv) where
  pub up_level : (n u : ℕ) → lv u + n ≤ 2 → lv (up k n u) ≡ lv u + n
  unfolding up
  up_level zero u h = sym (add-zero (lv u))
  up_level (suc n) u h =
      let p = parent w u (hangs w u (omega arith)) in
      up_level n (home (k u)) (omega (arith, p)) ∙ omega (arith, p)

  -- u lies below t, or is t
  pub record Under (t u : ℕ) : Type 0 where
    pub steps : ℕ
    pub levels : lv u + steps ≡ lv t
    pub is : up k steps u ≡ t

  pub under_self : (t u : ℕ) → u ≡ t → Under t u
  unfolding up
  under_self t u e = record { steps = 0; levels = add-zero (lv u) ∙ ap lv e; is = e }

  -- as the table above it does
  pub under_up : (t u : ℕ) → 2 ≤ k u → Under t (home (k u)) → Under t u
  unfolding up
  under_up t u h q = record { steps = suc q.steps; levels = omega (arith, q.levels, parent w u h); is = q.is }

  -- a table lies below one table of each level
  pub one_above : (t t' u : ℕ) → lv t ≡ lv t' → Under t u → Under t' u → t ≡ t'
  one_above t t' u e p q =
      let n : p.steps ≡ q.steps = omega (arith, p.levels, q.levels) in
      sym p.is ∙ ap (λ (x : ℕ). up k x u) n ∙ q.is

  -- what belongs to t lies below it
  pub belongs_under : (n t u : ℕ) → belongs k n t u ≡ true → Under t u
  unfolding belongs
  belongs_under zero t u e = absurd (false≢true e)
  belongs_under (suc n) t u e = go (ℕ_discrete u t) (dec_lt (k u) 2) (belongs_under n t (home (k u)))
    where
      go : Dec (u ≡ t) → Dec (k u < 2) → (belongs k n t (home (k u)) ≡ true → Under t (home (k u))) → Under t u
      go (yes q) d ih = under_self t u q
      go (no q) (yes h) ih = absurd (false≢true (sym (belongs_end k n t u q h) ∙ e))
      go (no q) (no h) ih = under_up t u (omega arith) (ih (sym (belongs_up k n t u q (omega arith)) ∙ e))

  -- and so back, where n tables above u are looked at
  reaches : (m n t u : ℕ) → m ≤ n → lv t ≤ 2 → lv u + m ≡ lv t → up k m u ≡ t → belongs k (suc n) t u ≡ true
  unfolding up
  reaches zero n t u l b h e = belongs_self k n t u e
  reaches (suc m) zero t u l b h e = absurd (omega arith)
  reaches (suc m) (suc n) t u l b h e =
      let g = hangs w u (omega arith) in
      belongs_up k (suc n) t u (λ q. omega (arith, ap lv q)) g ∙ reaches m n t (home (k u)) (omega arith) b (omega (arith, parent w u g)) e

  -- as many as the level of t are enough
  pub under_belongs : (l t u : ℕ) → lv t ≡ l → l ≤ 2 → Under t u → belongs k (suc l) t u ≡ true
  under_belongs l t u e b q = reaches q.steps l t u (omega (arith, q.levels)) (omega arith) q.levels q.is
