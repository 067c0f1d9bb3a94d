-- What clearing U means: the page's word has no U, and everything else is as it was. Assumes nothing.
use mathlib.Core.Path.{◌≡◌, refl, sym, ap, ◌∙◌, subst}
use mathlib.Core.Logic.{by_cases}
use Prim.Native.Nat.{ℕ, ◌/◌, ◌%◌, ◌^◌, ◌≤◌, ◌<◌}
use native.Mathlib.Decide.{ℕ_discrete, dec_lt}
use native.Mathlib.Omega.{arith}
use Rattle.std.specs.Prelude.{Ok}
use Rattle.page_table_entry.specs.Layout.{bit_u}
use Rattle.page_table_entry.specs.Change.{with_bit}
use Rattle.store.specs.Store.{Store, Sized, mark, frame_no}
use Rattle.store.specs.Level.{home}
use Rattle.store.specs.WellFormed.{WellFormed}
use Rattle.store.specs.Walk.{slot_word, slot, entry_at, resolve}
use Rattle.store.proofs.Tree.{Tree, TreeOf, top, tree_of, well_formed_of}
use Rattle.store.proofs.Walk.{top_of}
use Rattle.walk.proofs.Spans.{Upd}
use Rattle.enter.specs.Enter.{put_slot, stored}
use Rattle.enter.proofs.Leaves.{tree_leaf}
use Rattle.enter.proofs.EnterPage.{page_slot}
use Rattle.enter.proofs.Write.{leaf_level, leaf_upd, leaf_here, leaf_rest, leaf_sized}
use Rattle.unmap.specs.Clear.{no_table, Clear}
use Rattle.unmap.specs.Gone.{Cleared}

-- an entry without U names the same frame, and is fit where it was
bare : (e : ℕ) → (frame_no (with_bit bit_u 0 e) ≡ frame_no e) × (with_bit bit_u 0 e % 2 ≡ e % 2) × (with_bit bit_u 0 e ≤ e)
bare e = (omega arith, omega arith, omega arith)

-- a word of level 0 keeps its frame and V, if it has a word
tree_kept : {a k f lv : ℕ → ℕ} (a' : ℕ → ℕ) (m v : ℕ) → Tree a k f lv → Upd a a' m v → 2 ≤ m → lv (home m) ≡ 0 → frame_no v ≡ frame_no (a m) → v % 2 ≡ a m % 2 → v ≤ a m → Tree a' k f lv
tree_kept {a} {k} {f} {lv} a' m v w ua m2 l0 fr od le =
    tree_leaf a' f m v w ua m2 l0
    (λ h. let l = w.leaf m (omega arith) l0 in record { valid = od ∙ l.valid; small = omega (arith, l.small); held = rw fr l.held }) (λ x n q h. q)
    (λ j h.
    let q = w.pool j h in
    by_cases (ℕ_discrete (f j) m) (λ y. (q.0, ap (λ (x : ℕ). frame_no (a' x)) y ∙ ap frame_no ua.same ∙ fr ∙ ap (λ (x : ℕ). frame_no (a x)) (sym y) ∙ q.1))
    (λ y. (q.0, ap frame_no (ua.other (f j) y) ∙ q.1)))

module _ (s : Store) (z : Sized s) (c : WellFormed s) (r p : ℕ) (rr : mark s.tmarks r ≡ 1) (h : p < 2 ^ 26) (t : 0 < entry_at s r 1 (p / 512)) where
  w : TreeOf s
  w = tree_of s z c

  abbrev v : ℕ
  v = with_bit bit_u 0 (resolve s r p)

  m2 : 2 ≤ slot (slot_word s.words) r 2 p
  m2 = page_slot s w r p rr h t

  pub page_cleared : Cleared s r p (stored s (slot (slot_word s.words) r 2 p) v)
  unfolding entry_at top
  page_cleared =
      let b = bare (resolve s r p) in
      let u = leaf_upd s z w r p v rr (top_of p h) m2 in
      let zz = leaf_sized s z w r p v rr (top_of p h) m2 s.bytes s.fmarks refl refl in
      let tree = tree_kept (slot_word (put_slot s.words (slot (slot_word s.words) r 2 p) v)) (slot (slot_word s.words) r 2 p) v w u m2 (leaf_level s z w r p v rr (top_of p h) m2) b.0 b.1 b.2 in
      record {
        sized = zz;
        well_formed = well_formed_of (stored s (slot (slot_word s.words) r 2 p) v) zz tree;
        cleared = leaf_here s z w r p v rr (top_of p h) m2 s.bytes s.fmarks;
        others = λ r' x q l n. leaf_rest s z w r p v rr (top_of p h) m2 s.bytes s.fmarks r' 2 x q (omega arith) (omega arith) (λ _ a d. n a d);
        tmarks = refl;
        bytes = refl;
        fmarks = refl;
      }

-- what a success means, for a page below 2^38 of a root
pub clear_cleared : (s : Store) (root va v : ℕ) (s' : Store) → Sized s → WellFormed s → mark s.tmarks root ≡ 1 → va < 2 ^ 38 → Clear s root va (Ok v) s' → Cleared s root (va / 4096) s'
clear_cleared s root va v s' z c rr h u =
    let t : 0 < entry_at s root 1 (va / 4096 / 512) = by_cases (dec_lt 0 (entry_at s root 1 (va / 4096 / 512))) (λ y. y) (λ n. absurd (u.0 11 (no_table (omega arith)))) in
    subst (Cleared s root (va / 4096)) (sym u.1.1) (page_cleared s z c root (va / 4096) rr (omega arith) t)
