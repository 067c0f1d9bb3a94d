-- The tables that belong to a table hang from its entries, each from one of them. Assumes nothing.
use mathlib.Core.Path.{◌≡◌, refl, sym, ap, ◌∙◌}
use mathlib.Core.Bool.{Bool, true, false, cond, ◌||◌, false≢true}
use Prim.Native.Nat.{ℕ, zero, suc, ◌+◌, ◌-◌, ◌*◌, ◌%◌, ◌≤◌, ◌<◌}
use native.Mathlib.Decide.{ℕ_discrete}
use native.Mathlib.Omega.{arith}
use borrow.Author.Tests.{eq-eqb, ne_eqb, eqb-true}
use lib.Dec.{eqb}
use Rattle.store.specs.Store.{pointer_to}
use Rattle.store.specs.Level.{home}
use Rattle.store.specs.Walk.{table_of}
use Rattle.store.proofs.Tree.{Tree}
use Rattle.store.proofs.Walk.{hangs}
use Rattle.release.specs.Free.{belongs}
use Rattle.release.proofs.Truth.{same_truth, or_left, or_right, or_elim}
use Rattle.release.proofs.Belongs.{up, up_last, up_level, Under, under_self, one_above, belongs_under, under_belongs}

-- the slot of entry i of table t
abbrev pub entry_slot : ℕ → ℕ → ℕ
entry_slot t i = 512 * t + i + 2

-- where a gives the word of each slot: the table that entry i of table t points to
abbrev pub child_of : (ℕ → ℕ) → ℕ → ℕ → ℕ
child_of a t i = table_of (a (entry_slot t i))

-- u belongs to the table that word x points to
unfoldable pub pointed : (ℕ → ℕ) → ℕ → ℕ → ℕ → Bool
pointed k n x u = cond (eqb x 0) false (belongs k n (table_of x) u)

-- u belongs to a table that one of the first e words of t points to
unfoldable pub hung : (ℕ → ℕ) → (ℕ → ℕ) → ℕ → ℕ → ℕ → ℕ → Bool
hung a k n t zero u = false
hung a k n t (suc e) u = hung a k n t e u || pointed k n (a (entry_slot t e)) u

pub pointed_none : (k : ℕ → ℕ) (n x u : ℕ) → x ≡ 0 → pointed k n x u ≡ false
unfolding pointed
pointed_none k n x u e = rw (eq-eqb x 0 e)

pub pointed_some : (k : ℕ → ℕ) (n x u : ℕ) → (x ≡ 0 → ⊥) → pointed k n x u ≡ belongs k n (table_of x) u
unfolding pointed
pointed_some k n x u h = rw (ne_eqb x 0 h)

-- a table t of level l + 1, which is 2 or 1
module _ {a k f lv : ℕ → ℕ} (w : Tree a k f lv) (l t : ℕ) (lt : lv t ≡ suc l) (l2 : suc l ≤ 2) where
  home_entry : (i : ℕ) → i < 512 → home (entry_slot t i) ≡ t
  home_entry i h = omega arith

  -- the table c that entry i points to
  module _ (i : ℕ) (h : i < 512) (p : a (entry_slot t i) ≡ 0 → ⊥) where
    pub child_is : (a (entry_slot t i) ≡ pointer_to (child_of a t i)) × (k (child_of a t i) ≡ entry_slot t i)
    child_is = w.node (entry_slot t i) (omega arith) (omega (arith, ap lv (home_entry i h)))

    pub child_level : lv (child_of a t i) ≡ l
    child_level =
        let q = w.link (child_of a t i) (omega (arith, child_is.1)) in
        omega (arith, q.1, ap (λ (m : ℕ). lv (home m)) child_is.1, ap lv (home_entry i h))

    -- what belongs to it belongs to t
    child_under : (u : ℕ) → Under w (child_of a t i) u → Under w t u
    child_under u q = record {
      steps = suc q.steps;
      levels = omega (arith, q.levels, child_level);
      is = up_last k q.steps u ∙ ap (λ (x : ℕ). home (k x)) q.is ∙ ap home child_is.1 ∙ home_entry i h;
    }

  -- an entry that u hangs from
  pub record From (e u : ℕ) : Type 0 where
    pub entry : ℕ
    pub below : entry < e
    pub there : a (entry_slot t entry) ≡ 0 → ⊥
    pub under : Under w (child_of a t entry) u

  hung_from : (e u : ℕ) → hung a k (suc l) t e u ≡ true → From e u
  unfolding hung
  hung_from zero u h = absurd (false≢true h)
  hung_from (suc e) u h = or_elim (hung a k (suc l) t e u) (pointed k (suc l) (a (entry_slot t e)) u) (λ y. later (hung_from e u y)) here h
    where
      later : From e u → From (suc e) u
      later q = record { entry = q.entry; below = omega (arith, q.below); there = q.there; under = q.under }

      here : pointed k (suc l) (a (entry_slot t e)) u ≡ true → From (suc e) u
      here y = go (ℕ_discrete (a (entry_slot t e)) 0)
        where
          go : Dec (a (entry_slot t e) ≡ 0) → From (suc e) u
          go (yes z) = absurd (false≢true (sym (pointed_none k (suc l) (a (entry_slot t e)) u z) ∙ y))
          go (no n) =
              record { entry = e; below = omega arith; there = n; under = belongs_under w (suc l) (child_of a t e) u (sym (pointed_some k (suc l) (a (entry_slot t e)) u n) ∙ y) }

  from_hung : (e u : ℕ) → e ≤ 512 → (i : ℕ) → i < e → (a (entry_slot t i) ≡ 0 → ⊥) → Under w (child_of a t i) u → hung a k (suc l) t e u ≡ true
  unfolding hung
  from_hung zero u b i h p q = absurd (omega arith)
  from_hung (suc e) u b i h p q = go (ℕ_discrete i e) (λ l. from_hung e u (omega arith) i l p q)
    where
      go : Dec (i ≡ e) → (i < e → hung a k (suc l) t e u ≡ true) → (hung a k (suc l) t e u || pointed k (suc l) (a (entry_slot t e)) u) ≡ true
      go (no n) ih = or_left (hung a k (suc l) t e u) (pointed k (suc l) (a (entry_slot t e)) u) (ih (omega arith))
      go (yes s) ih =
          or_right (hung a k (suc l) t e u) (pointed k (suc l) (a (entry_slot t e)) u)
          (ap (λ (x : ℕ). pointed k (suc l) (a (entry_slot t x)) u) (sym s) ∙ pointed_some k (suc l) (a (entry_slot t i)) u p
          ∙ under_belongs w l (child_of a t i) u (child_level i (omega arith) p) (omega arith) q)

  -- two entries have different tables
  pub other_entries : (e : ℕ) → e < 512 → (a (entry_slot t e) ≡ 0 → ⊥) → (u : ℕ) → hung a k (suc l) t e u ≡ true
      → belongs k (suc l) (child_of a t e) u ≡ true → ⊥
  other_entries e h p u x y =
      let q = hung_from e u x in
      let i = q.entry in
      let b : i < 512 = omega (arith, q.below) in
      let s = one_above w (child_of a t i) (child_of a t e) u (child_level i b q.there ∙ sym (child_level e h p)) q.under
      (belongs_under w (suc l) (child_of a t e) u y) in
      omega (arith, q.below, (child_is i b q.there).1, (child_is e h p).1, ap k s)

  -- t is not below itself
  pub not_own : (e : ℕ) → e ≤ 512 → hung a k (suc l) t e t ≡ true → ⊥
  not_own e b x =
      let q = hung_from e t x in
      omega (arith, q.under.levels, child_level q.entry (omega (arith, q.below)) q.there)

  -- what hangs from an entry of t belongs to t
  hung_under : (e u : ℕ) → e ≤ 512 → hung a k (suc l) t e u ≡ true → Under w t u
  hung_under e u b x = let q = hung_from e u x in child_under q.entry (omega (arith, q.below)) q.there u q.under

  -- what belongs to t hangs from an entry of t, or is t
  under_hung : (u : ℕ) → Under w t u → (hung a k (suc l) t 512 u || eqb u t) ≡ true
  unfolding up
  under_hung u q = go q.steps q.levels q.is
    where
      go : (n : ℕ) → lv u + n ≡ lv t → up k n u ≡ t → (hung a k (suc l) t 512 u || eqb u t) ≡ true
      go zero h e = or_right (hung a k (suc l) t 512 u) (eqb u t) (eq-eqb u t e)
      go (suc n) h e =
          let c = up k n u in
          let v : lv c ≡ lv u + n = up_level w n u (omega arith) in
          let g : 2 ≤ k c = hangs w c (omega arith) in
          let d : home (k c) ≡ t = sym (up_last k n u) ∙ e in
          let i = (k c - 2) % 512 in
          let s : entry_slot t i ≡ k c = omega arith in
          let x : a (entry_slot t i) ≡ pointer_to c = ap a s ∙ (w.link c g).0 in
          let y : c ≡ child_of a t i = omega arith in
          or_left (hung a k (suc l) t 512 u) (eqb u t)
          (from_hung 512 u (omega arith) i (omega arith) (λ z. omega arith) (record { steps = n; levels = sym v ∙ ap lv y; is = y }))

  pub belongs_split : (u : ℕ) → (hung a k (suc l) t 512 u || eqb u t) ≡ belongs k (suc (suc l)) t u
  belongs_split u =
      same_truth (hung a k (suc l) t 512 u || eqb u t) (belongs k (suc (suc l)) t u)
      (λ x. or_elim (hung a k (suc l) t 512 u) (eqb u t) (λ y. of (hung_under 512 u (omega arith) y))
      (λ y. of (under_self w t u (eqb-true u t y))) x)
      (λ x. under_hung u (belongs_under w (suc (suc l)) t u x))
    where
      of : Under w t u → belongs k (suc (suc l)) t u ≡ true
      of = under_belongs w (suc l) t u lt l2

  -- what belongs to the table of an entry belongs to t
  pub child_belongs : (i : ℕ) → i < 512 → (a (entry_slot t i) ≡ 0 → ⊥) → (u : ℕ) → belongs k (suc l) (child_of a t i) u ≡ true
      → belongs k (suc (suc l)) t u ≡ true
  child_belongs i h p u x =
      under_belongs w (suc l) t u lt l2 (child_under i h p u (belongs_under w (suc l) (child_of a t i) u x))

  pub self_belongs : belongs k (suc (suc l)) t t ≡ true
  self_belongs = under_belongs w (suc l) t t lt l2 (under_self w t t refl)
