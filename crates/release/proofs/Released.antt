-- Freeing a table and those below it in order is giving back all tables that belong to it. Assumes nothing.
use mathlib.Core.Path.{◌≡◌, refl, sym, ap, ◌∙◌}
use mathlib.Core.Bool.{Bool, true, false, ◌||◌, false≢true}
use mathlib.Core.List.{List}
use Prim.Native.Nat.{ℕ, zero, suc, ◌+◌, ◌*◌, ◌/◌, ◌≤◌, ◌<◌}
use native.Mathlib.Decide.{ℕ_discrete}
use native.Mathlib.Omega.{arith}
use lib.Dec.{eqb}
use lib.ListN.{length}
use Rattle.store.specs.Store.{Store, Sized, word, mark}
use Rattle.store.specs.WellFormed.{WellFormed}
use Rattle.store.proofs.Scans.{in_range}
use Rattle.store.proofs.Tree.{Tree, tree_of, word_slot}
use Rattle.release.specs.Free.{belongs, wiped_words, wiped_marks, released, tables_of}
use Rattle.release.specs.FreeTree.{Trees, trees, wipe, add, child, children, free_tree}
use Rattle.release.proofs.FreeTreeLaws.{names_none, names_one}
use Rattle.release.proofs.Wiped.{wiped_length, wiped_out, give_back, give_same, give_again, give_table, give_none}
use Rattle.release.proofs.Truth.{or_false, not_true}
use Rattle.release.proofs.Belongs.{belongs_one}
use Rattle.release.proofs.Hung.{entry_slot, child_of, pointed, hung, pointed_none, pointed_some, child_is, child_level, other_entries, not_own, belongs_split, child_belongs, self_belongs}

-- T is the number of tables
module _ {a k f lv : ℕ → ℕ} (w : Tree a k f lv) (T : ℕ) (there : (u : ℕ) → (k u ≡ 0 → ⊥) → u < T) where
  -- what is freed from words ws and marks ms, where the words of the tables that belong to t are those of the tree
  abbrev Frees : ℕ → ℕ → Type 0
  Frees l t = (ws ms : List ℕ) → length ms ≡ T → length ws ≡ 512 * T → ((v : ℕ) → belongs k (suc l) t (v / 512) ≡ true → word ws v ≡ a (v + 2))
      → free_tree l t ws ms ≡ give_back (belongs k (suc l) t) ws ms

  lowest : (t : ℕ) → t < T → Frees 0 t
  unfolding free_tree
  lowest t h ws ms m_t w_t ok =
      ap (wipe t) (give_none ws ms) ∙ give_table (λ _. false) ws ms t (omega arith) (omega arith) (λ e. false≢true e)
      ∙ give_same (λ u. false || eqb u t) ws ms (belongs k 1 t) (belongs_one k t)

  -- a table t of level l + 1, where it is so for those of level l
  module _ (l : ℕ) (l2 : suc l ≤ 2) (ih : (t : ℕ) → lv t ≡ l → t < T → Frees l t) (t : ℕ) (lt : lv t ≡ suc l) (t_t : t < T)
      (ws ms : List ℕ) (m_t : length ms ≡ T) (w_t : length ws ≡ 512 * T) (ok : (v : ℕ) → belongs k (suc (suc l)) t (v / 512) ≡ true → word ws v ≡ a (v + 2)) where
    abbrev q : ℕ → ℕ → Bool
    q e = hung a k (suc l) t e

    -- entry e is still there when its turn comes
    entry : (e : ℕ) → e < 512 → word (wiped_words (q e) ws) (512 * t + e) ≡ a (entry_slot t e)
    entry e h =
        let d : (512 * t + e) / 512 ≡ t = omega arith in
        wiped_out (λ v. q e (v / 512)) ws (512 * t + e) (ap (q e) d ∙ not_true (q e t) (not_own w l t lt l2 e (omega arith)))
        ∙ ok (512 * t + e) (ap (belongs k (suc (suc l)) t) d ∙ self_belongs w l t lt l2)

    -- entry e points to a table
    module _ (e : ℕ) (h : e < 512) (n : a (entry_slot t e) ≡ 0 → ⊥) where
      abbrev c : ℕ
      c = child_of a t e

      in_tables : c < T
      in_tables = there c (λ z. omega (arith, (child_is w l t lt l2 e h n).1))

      intact : (v : ℕ) → belongs k (suc l) c (v / 512) ≡ true → word (wiped_words (q e) ws) v ≡ a (v + 2)
      intact v y =
          wiped_out (λ x. q e (x / 512)) ws v (not_true (q e (v / 512)) (λ z. other_entries w l t lt l2 e h n (v / 512) z y))
          ∙ ok v (child_belongs w l t lt l2 e h n (v / 512) y)

      turn_table : child (free_tree l) (a (entry_slot t e)) (give_back (q e) ws ms) ≡ give_back (λ u. q e u || pointed k (suc l) (a (entry_slot t e)) u) ws ms
      turn_table =
          names_one (free_tree l) (a (entry_slot t e)) (give_back (q e) ws ms) (omega (arith, (child_is w l t lt l2 e h n).0)) (simp wiped_length (omega (arith, in_tables)))
          ∙ ap (add (give_back (q e) ws ms))
          (ih c (child_level w l t lt l2 e h n) in_tables (wiped_words (q e) ws) (wiped_marks (q e) ms) (wiped_length (q e) 0 ms ∙ m_t) (wiped_length (λ v. q e (v / 512)) 0 ws ∙ w_t) intact)
          ∙ give_again (q e) ws ms (belongs k (suc l) c) (other_entries w l t lt l2 e h n)
          ∙ give_same (λ u. q e u || belongs k (suc l) c u) ws ms (λ u. q e u || pointed k (suc l) (a (entry_slot t e)) u)
          (λ u. ap (λ (b : Bool). q e u || b) (sym (pointed_some k (suc l) (a (entry_slot t e)) u n)))

    turn : (e : ℕ) → e < 512 → child (free_tree l) (a (entry_slot t e)) (give_back (q e) ws ms) ≡ give_back (λ u. q e u || pointed k (suc l) (a (entry_slot t e)) u) ws ms
    turn e h = go (ℕ_discrete (a (entry_slot t e)) 0)
      where
        go : Dec (a (entry_slot t e) ≡ 0) → child (free_tree l) (a (entry_slot t e)) (give_back (q e) ws ms) ≡ give_back (λ u. q e u || pointed k (suc l) (a (entry_slot t e)) u) ws ms
        go (no n) = turn_table e h n
        go (yes z) =
            names_none (free_tree l) (a (entry_slot t e)) (give_back (q e) ws ms) (omega arith)
            ∙ give_same (q e) ws ms (λ u. q e u || pointed k (suc l) (a (entry_slot t e)) u)
            (λ u. or_false (q e u) (pointed k (suc l) (a (entry_slot t e)) u) (pointed_none k (suc l) (a (entry_slot t e)) u z))

    firsts : (e : ℕ) → e ≤ 512 → children (free_tree l) t ws ms e ≡ give_back (q e) ws ms
    unfolding children hung
    firsts zero h = give_none ws ms
    firsts (suc e) h =
        ap (λ (s : Trees). child (free_tree l) (word s.words (512 * t + e)) s) (firsts e (omega arith))
        ∙ ap (λ (x : ℕ). child (free_tree l) x (give_back (q e) ws ms)) (entry e (omega arith)) ∙ turn e (omega arith)

    higher : free_tree (suc l) t ws ms ≡ give_back (belongs k (suc (suc l)) t) ws ms
    unfolding free_tree
    higher =
        ap (wipe t) (firsts 512 (omega arith)) ∙ give_table (q 512) ws ms t (omega arith) (omega arith) (not_own w l t lt l2 512 (omega arith))
        ∙ give_same (λ u. q 512 u || eqb u t) ws ms (belongs k (suc (suc l)) t) (belongs_split w l t lt l2)

  pub frees : (l : ℕ) → l ≤ 2 → (t : ℕ) → lv t ≡ l → t < T → Frees l t
  frees zero h t e = lowest t
  frees (suc l) h t e = higher l h (frees l (omega arith)) t e

-- of a root of a well-formed store
pub frees_root : (s : Store) → Sized s → WellFormed s → (root : ℕ) → mark s.tmarks root ≡ 1
    → free_tree 2 root s.words s.tmarks ≡ trees (released s root).words (released s root).tmarks (tables_of s root)
unfolding released
frees_root s z c root r =
    let w = tree_of s z c in
    let there : (u : ℕ) → (mark s.tmarks u ≡ 0 → ⊥) → u < length s.tmarks = in_range s.tmarks in
    frees w (length s.tmarks) there 2 (omega arith) root (w.root root r) (there root (λ e. omega arith)) s.words s.tmarks refl z.words
    (λ v _. sym (word_slot s.words v))
