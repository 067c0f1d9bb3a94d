-- A root has gone: where it had no pages, and where some of its pages went before. Assumes nothing.
use mathlib.Core.Path.{◌≡◌, refl, sym, ap, ◌∙◌}
use mathlib.Core.Logic.{by_cases}
use mathlib.Core.Bool.{Bool, true, false, cond}
use mathlib.Core.List.{List}
use Prim.Native.Nat.{ℕ, ◌+◌, ◌-◌, ◌^◌, ◌≤◌, ◌<◌}
use native.Mathlib.Nat.{zero-add}
use native.Mathlib.Decide.{dec_le, dec_lt}
use native.Mathlib.Omega.{arith}
use lib.ListN.{length}
use Rattle.store.specs.Store.{Store, Sized, mark, frame_no, pool_no}
use Rattle.store.specs.Count.{free}
use Rattle.store.specs.Walk.{slot_word, slot, entry_at, resolve}
use Rattle.store.specs.Owners.{Below}
use Rattle.store.proofs.Tree.{tree_of, two}
use Rattle.well_formed.specs.Root.{RootReady}
use Rattle.walk.specs.Mapped.{Mapped}
use Rattle.walk.proofs.Pages.{mapped_word}
use Rattle.unmap.specs.Leave.{PoolFrame}
use Rattle.unmap.specs.Gone.{in_pool, pool_pages, Gone}
use Rattle.unmap.proofs.LeavePage.{pool_none}
use Rattle.unmap.proofs.PoolLaws.{leaf_of}
use Rattle.release.specs.Free.{belongs, tables_of}
use Rattle.release.specs.Freed.{Freed}
use Rattle.process.specs.RootGone.{RootGone}
use Rattle.process.proofs.StillRoot.{still_root}
use Rattle.release.proofs.FreedLaws.{of_below, below_of}
use Rattle.process.proofs.PoolPages.{pool_join, pool_alike, pool_free, none_pool}

-- stores with the same bytes have as many frames
as_many : (s t : Store) → Sized s → Sized t → t.bytes ≡ s.bytes → length t.fmarks ≡ length s.fmarks
as_many s t z y e = omega (arith, z.bytes, y.bytes, ap (λ (l : List ℕ). length l) e)

-- tables are below a root by their marks alone
same_below : (s t : Store) (root : ℕ) → RootReady s root → RootReady t root → t.tmarks ≡ s.tmarks → (u : ℕ) → Below s root u → Below t root u
same_below s t root a b e u h =
    of_below t b.sized b.formed root b.is_root u
    (ap (λ (l : List ℕ). belongs (mark l) 3 root u) e ∙ below_of s a.sized a.formed root a.is_root u h)

-- a free frame is that of no page
unnamed : (s : Store) (root : ℕ) → RootReady s root → (x f : ℕ) → x < 2 ^ 26 → f < length s.fmarks → mark s.fmarks f ≡ 0 → frame_no (resolve s root x) ≡ pool_no f → ⊥
unfolding entry_at
unnamed s root r x f l h z q =
    let w = tree_of s r.sized r.formed in
    let some : 0 < resolve s root x = omega arith in
    let held = ((leaf_of s w root x r.is_root l some).held (omega arith) (omega (arith, r.sized.frames_to))).1 in
    let e : frame_no (resolve s root x) - 0x11_0000 ≡ f = omega arith in
    omega (arith, held, ap (mark s.fmarks) e, two w (slot (slot_word s.words) root 2 x) some)

-- a root without pages
pub bare_gone : (s : Store) (root v : ℕ) (s' : Store) → RootReady s root → ((x : ℕ) × (x < 2 ^ 26) × Mapped s root x → ⊥) → v ≡ tables_of s root → Freed s root v s' → RootGone s root v s'
bare_gone s root v s' r none e f = record {
  sized = f.sized;
  well_formed = f.well_formed;
  gone = f.gone;
  free = f.free;
  marks = f.marks;
  roots = f.roots;
  pages = f.pages;
  freed = λ x j l h q. absurd (omega (arith, zero_word x l));
  kept = λ j n. ap (λ (l : List ℕ). mark l j) f.fmarks;
  bytes = f.bytes;
  count = e;
  tables = f.tables;
  frames =
      ap free f.fmarks
      ∙ omega (arith, pool_free (2 ^ 26) s root 0 (λ i l. none_pool (length s.fmarks) (resolve s root (0 + i)) (ap (resolve s root) (zero-add i) ∙ zero_word i l)));
}
  where
    zero_word : (x : ℕ) → x < 2 ^ 26 → resolve s root x ≡ 0
    zero_word x l = by_cases (dec_le 1 (resolve s root x)) (λ y. absurd (none (x, l, mapped_word s r.sized r.formed root r.is_root x l (λ z. omega arith)))) (λ y. omega arith)

-- pages p .. p + n - 1 of the root have left, without freeing only those without a pool frame, and then the root has gone
module _ (s : Store) (root p n : ℕ) (freeing : Bool) (s₁ : Store) (r : RootReady s root) (range : p + n ≤ 2 ^ 26)
    (foreign : freeing ≡ false → (i : ℕ) → i < n → PoolFrame s (resolve s root (p + i)) → ⊥) (g : Gone s root p n freeing s₁) where
  pub root_left : RootReady s₁ root
  root_left = still_root s root p n freeing s₁ r.is_root g

  lengths : length s₁.fmarks ≡ length s.fmarks
  lengths = as_many s s₁ r.sized g.sized g.bytes

  -- a page is one of those, or it resolves as before
  by_place : {A : Type 0} (x : ℕ) → x < 2 ^ 26 → ((i : ℕ) → i < n → x ≡ p + i → resolve s₁ root x ≡ 0 → A) → (resolve s₁ root x ≡ resolve s root x → A) → A
  by_place x l f h =
      by_cases (dec_le p x)
      (λ a. by_cases (dec_lt x (p + n)) (λ b. let e : x ≡ p + (x - p) = omega arith in f (x - p) (omega arith) e (ap (resolve s₁ root) e ∙ g.gone (x - p) (omega arith)))
      (λ b. h (g.others root x r.is_root l (λ _ _ d. b d))))
      (λ a. h (g.others root x r.is_root l (λ _ c _. a c)))

  -- ---- the pages with a pool frame

  abbrev P : Store → ℕ → ℕ → ℕ
  P t x k = pool_pages t root x k

  abbrev k : ℕ
  k = 2 ^ 26 - (p + n)

  before : P s₁ 0 p ≡ P s 0 p
  before =
      pool_alike p s s₁ root 0 (λ i l.
      ap (λ (m : ℕ). in_pool m (resolve s₁ root (0 + i))) lengths ∙ ap (in_pool (length s.fmarks)) (g.others root (0 + i) r.is_root (omega arith) (λ _ c _. omega arith)))

  after : P s₁ (p + n) k ≡ P s (p + n) k
  after =
      pool_alike k s s₁ root (p + n) (λ i l.
      ap (λ (m : ℕ). in_pool m (resolve s₁ root (p + n + i))) lengths ∙ ap (in_pool (length s.fmarks)) (g.others root (p + n + i) r.is_root (omega arith) (λ _ _ d. omega arith)))

  here : P s₁ p n ≡ 0
  here = pool_free n s₁ root p (λ i l. none_pool (length s₁.fmarks) (resolve s₁ root (p + i)) (g.gone i l))

  were : (b : Bool) → (b ≡ false → (i : ℕ) → i < n → PoolFrame s (resolve s root (p + i)) → ⊥) → P s p n ≡ cond b (P s p n) 0
  were true f = refl
  were false f = pool_free n s root p (λ i l. pool_none s (resolve s root (p + i)) (f refl i l))

  parts : (t : Store) → P t 0 (2 ^ 26) ≡ P t 0 p + (P t p n + P t (p + n) k)
  parts t =
      let e : 2 ^ 26 ≡ p + (n + k) = omega arith in
      ap (P t 0) e ∙ pool_join p (n + k) t root 0
      ∙ ap (λ (x : ℕ). P t 0 p + x) (ap (λ (x : ℕ). P t x (n + k)) (zero-add p) ∙ pool_join n k t root p)

  -- ---- and then the root has gone

  module _ (v : ℕ) (s' : Store) (q : RootGone s₁ root v s') where
    freed : (x f : ℕ) → x < 2 ^ 26 → f < length s.fmarks → frame_no (resolve s root x) ≡ pool_no f → mark s'.fmarks f ≡ 0
    freed x f l h e =
        by_place x l (λ i b c z. go freeing refl i b (ap (λ (y : ℕ). frame_no (resolve s root y)) (sym c) ∙ e))
        (λ c. q.freed x f l (omega (arith, lengths)) (ap frame_no c ∙ e))
      where
        go : (b : Bool) → freeing ≡ b → (i : ℕ) → i < n → frame_no (resolve s root (p + i)) ≡ pool_no f → mark s'.fmarks f ≡ 0
        go true t i b e =
            let z = g.freed t i f b h e in
            q.kept f (λ y m d. unnamed s₁ root root_left y f m (omega (arith, lengths)) z d) ∙ z
        go false t i b e = absurd (foreign t i b (record { frame = f; there = h; number = e }))

    kept : (f : ℕ) → ((x : ℕ) → x < 2 ^ 26 → frame_no (resolve s root x) ≡ pool_no f → ⊥) → mark s'.fmarks f ≡ mark s.fmarks f
    kept f h =
        q.kept f (λ x l d. by_place x l (λ i b c z. omega arith) (λ c. h x l (ap frame_no (sym c) ∙ d)))
        ∙ g.kept f (λ _ i l d. h (p + i) (omega arith) d)

    pub gone_before : RootGone s root v s'
    gone_before = record {
      sized = q.sized;
      well_formed = q.well_formed;
      gone = q.gone;
      free = λ t b. q.free t (same_below s s₁ root r root_left g.tmarks t b);
      marks = λ t o. q.marks t (λ b. o (same_below s₁ s root root_left r (sym g.tmarks) t b)) ∙ ap (λ (l : List ℕ). mark l t) g.tmarks;
      roots = λ r' e o. q.roots r' (ap (λ (l : List ℕ). mark l r') g.tmarks ∙ e) o;
      pages = λ r' x e o l. q.pages r' x (ap (λ (m : List ℕ). mark m r') g.tmarks ∙ e) o l ∙ g.others r' x e l (λ d _ _. o d);
      freed = freed;
      kept = kept;
      bytes = q.bytes ∙ g.bytes;
      count = q.count ∙ ap (λ (l : List ℕ). tables_of (record { words = s.words; tmarks = l; bytes = s.bytes; fmarks = s.fmarks }) root) g.tmarks;
      tables = q.tables ∙ ap (λ (l : List ℕ). free l + v) g.tmarks;
      frames = omega (arith, q.frames, g.frames, parts s, parts s₁, before, here, after, were freeing foreign);
    }
