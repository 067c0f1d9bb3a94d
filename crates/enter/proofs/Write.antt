-- The word of a page whose level-0 table is there becomes v, and frames may change with it: what the walks find then. Assumes nothing.
use mathlib.Core.Path.{◌≡◌, refl}
use mathlib.Core.List.{List}
use Prim.Native.Nat.{ℕ, ◌≤◌, ◌<◌}
use native.Mathlib.Omega.{arith}
use lib.ListN.{length}
use Rattle.store.specs.Store.{Store, store_of, Sized, mark}
use Rattle.store.specs.Level.{home, level}
use Rattle.store.specs.Walk.{slot_word, slot_in, slot, entry_at}
use Rattle.store.proofs.Tree.{LeafIn, TreeOf, top}
use Rattle.store.proofs.Walk.{depth}
use Rattle.walk.proofs.Spans.{Upd}
use Rattle.enter.specs.Enter.{put_slot, stored}
use Rattle.enter.proofs.Updates.{upd_slot, length_put}
use Rattle.enter.proofs.Leaves.{tree_stored}
use Rattle.enter.proofs.Walks.{walk, here, elsewhere}
use Rattle.enter.proofs.Step.{Step, in_words}

module _ (s : Store) (z : Sized s) (w : TreeOf s) (r p v : ℕ) (rr : mark s.tmarks r ≡ 1) (h : top 2 p < 256) (m2 : 2 ≤ slot (slot_word s.words) r 2 p) where
  abbrev m : ℕ
  m = slot (slot_word s.words) r 2 p

  abbrev written : List ℕ
  written = put_slot s.words (slot (slot_word s.words) r 2 p) v

  pub leaf_level : level s.tmarks (home m) ≡ 0
  leaf_level = omega (arith, depth w r 2 p rr (omega arith) (omega arith) m2)

  pub leaf_upd : Upd (slot_word s.words) (slot_word written) m v
  leaf_upd = upd_slot s.words m v m2 (in_words s z w m m2 (omega (arith, leaf_level)))

  no_node : 1 ≤ level s.tmarks (home m) → (i : ℕ) → i < 512 → slot_word written (slot_in v i) ≡ slot_word s.words (slot_in (slot_word s.words m) i)
  no_node l i q = absurd (omega (arith, leaf_level))

  -- whatever the frames then are
  module _ (bs fs : List ℕ) where
    abbrev s' : Store
    s' = store_of written s.tmarks bs fs

    -- the page's walk finds v
    pub leaf_here : entry_at s' r 2 p ≡ v
    unfolding entry_at
    leaf_here = here w (slot_word written) m v leaf_upd m2 no_node r 2 p rr (omega arith) (omega arith) refl

    -- in the same slot
    pub leaf_place : slot (slot_word written) r 2 p ≡ m
    leaf_place = (walk w (slot_word written) m v leaf_upd m2 no_node r 2 p rr (omega arith) (omega arith)).1 refl

    -- and all others find what they found
    pub leaf_rest : (r' d' x' : ℕ) → mark s.tmarks r' ≡ 1 → top d' x' < 256 → d' ≤ 2 → (d' ≡ 2 → r' ≡ r → x' ≡ p → ⊥) → entry_at s' r' d' x' ≡ entry_at s r' d' x'
    unfolding entry_at
    leaf_rest r' d' x' rr' h' b' ne =
        elsewhere w (slot_word written) m v leaf_upd m2 no_node r 2 p rr (omega arith) (omega arith) refl r' d' x' rr' (omega arith) b' ne

    pub leaf_sized : length bs ≡ length s.bytes → length fs ≡ length s.fmarks → Sized s'
    leaf_sized eb ef = record {
      tables_from = z.tables_from;
      tables_to = z.tables_to;
      frames_from = omega (arith, z.frames_from);
      frames_to = omega (arith, z.frames_to);
      words = simp length_put z.words;
      bytes = omega (arith, z.bytes);
    }

  -- a word that was 0 becomes an entry, and frames stay
  pub store_step : entry_at s r 2 p ≡ 0 → LeafIn (mark s.fmarks) m v → Step s (stored s (slot (slot_word s.words) r 2 p) v) r 2 p
  unfolding entry_at
  store_step e ok = record {
    sized = leaf_sized s.bytes s.fmarks refl refl;
    tree = tree_stored (slot_word written) m v w leaf_upd e m2 leaf_level ok;
    roots = λ t. (λ q. q, λ q. q);
    bytes = refl;
    fmarks = refl;
    place = leaf_place s.bytes s.fmarks;
    rest = leaf_rest s.bytes s.fmarks;
  }
