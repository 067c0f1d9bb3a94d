-- `tabled` and `enter_page`: the page's two tables are there, it has its entry, and every other walk finds what it found. Assumes nothing.
use mathlib.Core.Path.{◌≡◌, sym, ap, ◌∙◌}
use mathlib.Core.Logic.{⊎_elim, ◌↔◌}
use Prim.Native.Nat.{ℕ, zero, suc, ◌+◌, ◌/◌, ◌^◌, ◌≤◌, ◌<◌}
use native.Mathlib.Omega.{arith}
use Rattle.store.specs.Store.{Store, Sized, mark}
use Rattle.store.specs.Count.{is_zero, free_tables}
use Rattle.store.specs.Walk.{slot_word, slot, entry_at}
use Rattle.store.proofs.Tree.{LeafIn, TreeOf, top}
use Rattle.store.proofs.Walk.{depth, reach, top_of}
use Rattle.enter.specs.Enter.{hang, tabled, enter_page, Plain}
use Rattle.enter.proofs.Step.{Step, in_words}
use Rattle.enter.proofs.Hang.{hung}
use Rattle.enter.proofs.Write.{leaf_here, store_step}

-- what the walk for page p looks up at depth d: the group of the page, its block, the page itself
unfoldable pub part : ℕ → ℕ → ℕ
part zero p = p / 512 / 512
part (suc zero) p = p / 512
part (suc (suc d)) p = p

pub plain_leaf : (f : ℕ → ℕ) (m e : ℕ) → Plain e → LeafIn f m e
plain_leaf f m e k = record {
  valid = k.valid;
  small = k.small;
  held = λ a b. absurd (⊎_elim (λ l. omega arith) (λ l. omega arith) k.outside);
}

-- how many of the two tables of page p are missing
abbrev pub lacks : Store → ℕ → ℕ → ℕ
lacks s r p = is_zero (entry_at s r 0 (p / 512 / 512)) + is_zero (entry_at s r 1 (p / 512))

-- a page whose block has a table has a slot
pub page_slot : (s : Store) → TreeOf s → (r p : ℕ) → mark s.tmarks r ≡ 1 → p < 2 ^ 26 → 0 < entry_at s r 1 (p / 512) → 2 ≤ slot (slot_word s.words) r 2 p
unfolding top entry_at
page_slot s w r p rr h b = reach w r 1 p rr (omega arith) (omega arith) b

-- the two tables of page p of root r are there
pub record Tabled (s s' : Store) (r p : ℕ) : Type 0 where
  pub sized : Sized s'
  pub tree : TreeOf s'
  pub roots : (t : ℕ) → (mark s.tmarks t ≡ 1) ↔ (mark s'.tmarks t ≡ 1)
  pub bytes : s'.bytes ≡ s.bytes
  pub fmarks : s'.fmarks ≡ s.fmarks
  pub group : 0 < entry_at s' r 0 (p / 512 / 512)
  pub block : 0 < entry_at s' r 1 (p / 512)
  pub rest : (r' d x : ℕ) → mark s.tmarks r' ≡ 1 → top d x < 256 → d ≤ 2 → (d < 2 → r' ≡ r → x ≡ part d p → ⊥) → entry_at s' r' d x ≡ entry_at s r' d x
  pub free : free_tables s ≡ lacks s r p + free_tables s'

module _ (s : Store) (z : Sized s) (w : TreeOf s) (r p : ℕ) (rr : mark s.tmarks r ≡ 1) (h : p < 2 ^ 26) (fr : lacks s r p ≤ free_tables s) where
  -- the store with the level-1 table, and then with the level-0 table
  abbrev s₁ : Store
  s₁ = hang s (slot (slot_word s.words) r 0 (p / 512 / 512))

  abbrev s₀ : Store
  s₀ = hang s₁ (slot (slot_word s₁.words) r 1 (p / 512))

  t₁ : Step s s₁ r 0 (p / 512 / 512) × (0 < entry_at s₁ r 0 (p / 512 / 512)) × (free_tables s ≡ is_zero (entry_at s r 0 (p / 512 / 512)) + free_tables s₁)
  unfolding slot top
  t₁ = hung s z w r 0 (p / 512 / 512) rr (omega arith) (omega arith) (omega arith) (omega arith)

  same₁ : entry_at s₁ r 1 (p / 512) ≡ entry_at s r 1 (p / 512)
  unfolding top
  same₁ = t₁.0.rest r 1 (p / 512) rr (omega arith) (omega arith) (λ a b c. omega arith)

  rr₁ : mark s₁.tmarks r ≡ 1
  rr₁ = (t₁.0.roots r).0 rr

  two₁ : 2 ≤ slot (slot_word s₁.words) r 1 (p / 512)
  unfolding top entry_at
  two₁ = reach t₁.0.tree r 0 (p / 512) rr₁ (omega arith) (omega arith) t₁.1

  t₀ : Step s₁ s₀ r 1 (p / 512) × (0 < entry_at s₀ r 1 (p / 512)) × (free_tables s₁ ≡ is_zero (entry_at s₁ r 1 (p / 512)) + free_tables s₀)
  unfolding top
  t₀ = hung s₁ t₁.0.sized t₁.0.tree r 1 (p / 512) rr₁ (omega arith) (omega arith) two₁ (omega (arith, t₁.2, ap is_zero same₁))

  pub tabled_there : Tabled s (tabled s r p) r p
  unfolding tabled top part
  tabled_there = record {
    sized = t₀.0.sized;
    tree = t₀.0.tree;
    roots = λ y. (λ q. (t₀.0.roots y).0 ((t₁.0.roots y).0 q), λ q. (t₁.0.roots y).1 ((t₀.0.roots y).1 q));
    bytes = t₀.0.bytes ∙ t₁.0.bytes;
    fmarks = t₀.0.fmarks ∙ t₁.0.fmarks;
    group = omega (arith, t₀.0.rest r 0 (p / 512 / 512) rr₁ (omega arith) (omega arith) (λ a b c. omega arith), t₁.1);
    block = t₀.1;
    rest = λ r' d x q l b n.
        t₀.0.rest r' d x ((t₁.0.roots r').0 q) l b (λ a c f. n (omega arith) c (f ∙ ap (λ (y : ℕ). part y p) (sym a)))
        ∙ t₁.0.rest r' d x q l b (λ a c f. n (omega arith) c (f ∙ ap (λ (y : ℕ). part y p) (sym a)));
    free = omega (arith, t₁.2, t₀.2, ap is_zero same₁);
  }

  -- the level-1 table's slot for the page is one that a mark can hold
  pub slot_fits : slot (slot_word s₁.words) r 1 (p / 512) < 2 ^ 32
  unfolding top
  slot_fits =
      let d = depth t₁.0.tree r 1 (p / 512) rr₁ (omega arith) (omega arith) two₁ in
      omega (arith, in_words s₁ t₁.0.sized t₁.0.tree _ two₁ (omega (arith, d)), t₁.0.sized.words, t₁.0.sized.tables_to)

-- page p of root r got the entry e
pub record PageEntered (s s' : Store) (r p e : ℕ) : Type 0 where
  pub sized : Sized s'
  pub tree : TreeOf s'
  pub roots : (t : ℕ) → (mark s.tmarks t ≡ 1) ↔ (mark s'.tmarks t ≡ 1)
  pub bytes : s'.bytes ≡ s.bytes
  pub fmarks : s'.fmarks ≡ s.fmarks
  pub here : entry_at s' r 2 p ≡ e
  pub group : 0 < entry_at s' r 0 (p / 512 / 512)
  pub block : 0 < entry_at s' r 1 (p / 512)
  pub rest : (r' d x : ℕ) → mark s.tmarks r' ≡ 1 → top d x < 256 → d ≤ 2 → (r' ≡ r → x ≡ part d p → ⊥) → entry_at s' r' d x ≡ entry_at s r' d x
  pub free : free_tables s ≡ lacks s r p + free_tables s'

pub enter_page_lem : (s : Store) (z : Sized s) (w : TreeOf s) (r p e : ℕ) → mark s.tmarks r ≡ 1 → p < 2 ^ 26 → entry_at s r 2 p ≡ 0 → Plain e → lacks s r p ≤ free_tables s
    → PageEntered s (enter_page s r p e) r p e
unfolding top part enter_page
enter_page_lem s z w r p e rr h none ok fr =
    let g = tabled_there s z w r p rr h fr in
    let s₀ : Store = tabled s r p in
    let rr₀ : mark s₀.tmarks r ≡ 1 = (g.roots r).0 rr in
    let m2 : 2 ≤ slot (slot_word s₀.words) r 2 p = page_slot s₀ g.tree r p rr₀ h g.block in
    let none₀ : entry_at s₀ r 2 p ≡ 0 = g.rest r 2 p rr (omega arith) (omega arith) (λ a b c. omega arith) ∙ none in
    let ok₀ = plain_leaf (mark s₀.fmarks) (slot (slot_word s₀.words) r 2 p) e ok in
    let t = store_step s₀ g.sized g.tree r p e rr₀ (top_of p h) m2 none₀ ok₀ in
    record {
      sized = t.sized;
      tree = t.tree;
      roots = λ y. (λ q. (t.roots y).0 ((g.roots y).0 q), λ q. (g.roots y).1 ((t.roots y).1 q));
      bytes = t.bytes ∙ g.bytes;
      fmarks = t.fmarks ∙ g.fmarks;
      here = leaf_here s₀ g.sized g.tree r p e rr₀ (top_of p h) m2 s₀.bytes s₀.fmarks;
      group = omega (arith, t.rest r 0 (p / 512 / 512) rr₀ (omega arith) (omega arith) (λ a b c. omega arith), g.group);
      block = omega (arith, t.rest r 1 (p / 512) rr₀ (omega arith) (omega arith) (λ a b c. omega arith), g.block);
      rest = λ r' d x q l b n.
          t.rest r' d x ((g.roots r').0 q) l b (λ a c f. n c (f ∙ ap (λ (y : ℕ). part y p) (sym a))) ∙ g.rest r' d x q l b (λ _ c f. n c f);
      free = g.free;
    }
