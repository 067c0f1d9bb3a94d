-- `leave_pages`: pages of one block leave as a run of slots, and the loop over blocks. Assumes nothing.
use mathlib.Core.Path.{◌≡◌, refl, sym, ap, ap₂, ◌∙◌, subst}
use mathlib.Core.Bool.{Bool, false}
use mathlib.Core.List.{List}
use Prim.Native.Nat.{ℕ, zero, suc, ◌+◌, ◌-◌, ◌/◌, ◌%◌, ◌^◌, ◌≤◌, ◌<◌, min}
use native.Mathlib.Nat.{add-zero, add-suc, suc-add}
use native.Mathlib.Omega.{arith}
use lib.ListN.{length}
use Rattle.store.specs.Store.{Store, Sized, mark}
use Rattle.store.specs.Level.{home, level}
use Rattle.store.specs.Walk.{slot_word, slot, entry_at, resolve}
use Rattle.store.proofs.Tree.{TreeOf, top, tree_of}
use Rattle.store.proofs.Walk.{depth, above}
use Rattle.walk.proofs.Calls.{root_in}
use Rattle.enter.proofs.Step.{in_words}
use Rattle.enter.proofs.Runs.{next_slot}
use Rattle.unmap.specs.Leave.{PoolFrame, leave_page, leave_pages, leave_run, CanLeave}
use Rattle.unmap.proofs.LeavePage.{Left, slotted, page_left}

-- pages p .. p + n - 1 of root r may leave
pub record Leavable (n : ℕ) (s : Store) (r p : ℕ) (freeing : Bool) : Type 0 where
  pub sized : Sized s
  pub tree : TreeOf s
  pub root : mark s.tmarks r ≡ 1
  pub range : (i : ℕ) → i < n → p + i < 2 ^ 26
  pub mapped : (i : ℕ) → i < n → 0 < resolve s r (p + i)
  pub foreign : freeing ≡ false → (i : ℕ) → i < n → PoolFrame s (resolve s r (p + i)) → ⊥

module _ (n : ℕ) (s : Store) (r p : ℕ) (freeing : Bool) (c : Leavable (suc n) s r p freeing) where
  h : p < 2 ^ 26
  h = omega (arith, c.range 0 (omega arith))

  here : 0 < resolve s r p
  here = omega (arith, c.mapped 0 (omega arith), ap (resolve s r) (add-zero p))

  pub first_slot : 2 ≤ slot (slot_word s.words) r 2 p
  first_slot = slotted s c.sized c.tree r p c.root h here

  -- the first has left, and the others may leave
  pub first_left : Left s (leave_page s r p freeing) r p freeing
  first_left =
      page_left s c.sized c.tree r p c.root h here freeing
      (λ f q. c.foreign f 0 (omega arith) (subst (λ (x : ℕ). PoolFrame s (resolve s r x)) (sym (add-zero p)) q))

  pub others_may : Leavable n (leave_page s r p freeing) r (suc p) freeing
  unfolding top
  others_may =
      let g = first_left in
      let same : (i : ℕ) → i < n → resolve (leave_page s r p freeing) r (suc p + i) ≡ resolve s r (p + suc i) = λ i l.
      g.rest r 2 (suc p + i) c.root (omega (arith, c.range (suc i) (omega arith))) (omega arith) (λ a b d. omega arith) ∙ ap (resolve s r) (suc-add p i ∙ sym (add-suc p i)) in
      record {
        sized = g.sized;
        tree = g.tree;
        root = ap (λ (l : List ℕ). mark l r) g.tmarks ∙ c.root;
        range = λ i l. omega (arith, c.range (suc i) (omega arith));
        mapped = λ i l. omega (arith, same i l, c.mapped (suc i) (omega arith));
        foreign = λ f i l q. c.foreign f (suc i) (omega arith)
            (record { frame = q.frame; there = omega (arith, q.there, g.frames); number = omega (arith, q.number, same i l) });
      }

-- pages of one block leave as a run of slots
pub by_run : (n : ℕ) (s : Store) (r p : ℕ) (freeing : Bool) → Leavable (suc n) s r p freeing → p % 512 + suc n ≤ 512
    → leave_pages s r p (suc n) freeing ≡ leave_run s (slot (slot_word s.words) r 2 p) (suc n) freeing
unfolding leave_pages leave_run top
by_run zero s r p freeing c l = refl
by_run (suc n) s r p freeing c l =
    let s' : Store = leave_page s r p freeing in
    let h : p < 2 ^ 26 = omega (arith, c.range 0 (omega arith)) in
    let g = first_left (suc n) s r p freeing c in
    let same : entry_at s' r 1 (p / 512) ≡ entry_at s r 1 (p / 512) = g.rest r 1 (p / 512) c.root (omega arith) (omega arith) (λ a b d. omega arith) in
    by_run n s' r (suc p) freeing (others_may (suc n) s r p freeing c) (omega arith)
    ∙ ap (λ (x : ℕ). leave_run s' x (suc n) freeing) (next_slot s s' r p (omega arith) same (first_slot (suc n) s r p freeing c))

-- and these are slots of words
pub run_upto : (n : ℕ) (s : Store) (r p : ℕ) (freeing : Bool) → Leavable (suc n) s r p freeing → p % 512 + suc n ≤ 512
    → slot (slot_word s.words) r 2 p + suc n ≤ 2 + length s.words
unfolding top
run_upto n s r p freeing c l =
    let m : ℕ = slot (slot_word s.words) r 2 p in
    let h : p < 2 ^ 26 = omega (arith, c.range 0 (omega arith)) in
    let two = first_slot n s r p freeing c in
    let d = depth c.tree r 2 p c.root (omega arith) (omega arith) two in
    let u = above c.tree r 1 p c.root (omega arith) (omega arith) two in
    let y : home (m + n) ≡ home m = omega (arith, u.2, two) in
    omega (arith, in_words s c.sized c.tree (m + n) (omega (arith, two)) (omega (arith, d, ap (level s.tmarks) y)))

-- ---- the loop over blocks

-- i of n pages have left, and s is the store so far
pub record Leaving (s₀ : Store) (r p n : ℕ) (freeing : Bool) (s : Store) (i : ℕ) : Type 0 where
  pub within : i ≤ n
  pub ready : Leavable (n - i) s r (p + i) freeing
  pub whole : leave_pages s₀ r p n freeing ≡ leave_pages s r (p + i) (n - i) freeing

pub start : (s : Store) (r p n : ℕ) (freeing : Bool) → Leavable n s r p freeing → Leaving s r p n freeing s 0
start s r p n freeing c =
    let a : p ≡ p + 0 = omega arith in
    let k : n ≡ n - 0 = omega arith in
    record {
      within = omega arith;
      ready = subst (λ (x : ℕ). Leavable (n - 0) s r x freeing) a (subst (λ (x : ℕ). Leavable x s r p freeing) k c);
      whole = ap₂ (λ (x y : ℕ). leave_pages s r x y freeing) a k;
    }

module _ (s₀ : Store) (r p n : ℕ) (freeing : Bool) where
  pub done : (s : Store) (i : ℕ) → Leaving s₀ r p n freeing s i → n ≤ i → s ≡ leave_pages s₀ r p n freeing
  unfolding leave_pages
  done s i g h = let k : n - i ≡ 0 = omega arith in sym (g.whole ∙ ap (λ (x : ℕ). leave_pages s r (p + i) x freeing) k)

  next : (s : Store) (i : ℕ) → Leaving s₀ r p n freeing s i → i < n → Leaving s₀ r p n freeing (leave_page s r (p + i) freeing) (i + 1)
  unfolding leave_pages
  next s i g h =
      let s₁ : Store = leave_page s r (p + i) freeing in
      let q : n - i ≡ suc (n - (i + 1)) = omega arith in
      let a : suc (p + i) ≡ p + (i + 1) = omega arith in
      let c : Leavable (suc (n - (i + 1))) s r (p + i) freeing = subst (λ (x : ℕ). Leavable x s r (p + i) freeing) q g.ready in
      record {
        within = omega arith;
        ready = subst (λ (x : ℕ). Leavable (n - (i + 1)) s₁ r x freeing) a (others_may (n - (i + 1)) s r (p + i) freeing c);
        whole = g.whole ∙ ap (λ (x : ℕ). leave_pages s r (p + i) x freeing) q ∙ ap (λ (x : ℕ). leave_pages s₁ r x (n - (i + 1)) freeing) a;
      }

  onward : (k : ℕ) (s : Store) (i : ℕ) → Leaving s₀ r p n freeing s i → i + k ≤ n → Leaving s₀ r p n freeing (leave_pages s r (p + i) k freeing) (i + k)
  unfolding leave_pages
  onward zero s i g h = let q : i ≡ i + 0 = omega arith in subst (Leaving s₀ r p n freeing s) q g
  onward (suc k) s i g h =
      let s₁ : Store = leave_page s r (p + i) freeing in
      let a : p + (i + 1) ≡ suc (p + i) = omega arith in
      let c : i + 1 + k ≡ i + suc k = omega arith in
      subst (λ (x : ℕ). Leaving s₀ r p n freeing (leave_pages s₁ r (suc (p + i)) k freeing) x) c
      (subst (λ (x : ℕ). Leaving s₀ r p n freeing (leave_pages s₁ r x k freeing) (i + 1 + k)) a (onward k s₁ (i + 1) (next s i g (omega arith)) (omega arith)))

  -- a run of the next k pages, all in one block
  module _ (s : Store) (i : ℕ) (g : Leaving s₀ r p n freeing s i) where
    ready : (k : ℕ) → i + k ≤ n → Leavable k s r (p + i) freeing
    ready k h = let c = g.ready in record {
      sized = c.sized;
      tree = c.tree;
      root = c.root;
      range = λ j l. c.range j (omega arith);
      mapped = λ j l. c.mapped j (omega arith);
      foreign = λ f j l. c.foreign f j (omega arith);
    }

    module _ (t : i < n) where
      -- what the walk to the next page asks
      pub asks : (r < 512) × (p + i < 2 ^ 27)
      asks = (root_in s r g.ready.sized g.ready.root, omega (arith, g.ready.range 0 (omega arith)))

      -- what the code of the k pages that are left of a block asks, and what holds after it; m is the slot of the first
      pub can : (k m : ℕ) → k ≡ min (512 - (p + i) % 512) (n - i) → m ≡ slot (slot_word s.words) r 2 (p + i) → (2 ≤ m) × (m + k ≤ 2 + length s.words)
      can zero m l e = absurd (omega (arith, l, t))
      can (suc k) m l e =
          let c = ready (suc k) (omega (arith, l)) in
          (omega (arith, e, first_slot k s r (p + i) freeing c), omega (arith, e, run_upto k s r (p + i) freeing c (omega (arith, l))))

      pub after : (k m : ℕ) → k ≡ min (512 - (p + i) % 512) (n - i) → m ≡ slot (slot_word s.words) r 2 (p + i) → (s' : Store) → s' ≡ leave_run s m k freeing → Leaving s₀ r p n freeing s' (i + k)
      after zero m l e s' q = absurd (omega (arith, l, t))
      after (suc k) m l e s' q =
          let h : i + suc k ≤ n = omega (arith, l) in
          subst (λ (x : Store). Leaving s₀ r p n freeing x (i + suc k)) (by_run k s r (p + i) freeing (ready (suc k) h) (omega (arith, l)) ∙ ap (λ (x : ℕ). leave_run s x (suc k) freeing) (sym e) ∙ sym q)
          (onward (suc k) s i g h)

-- what the judge showed is enough
pub leavable : (s : Store) (r p n : ℕ) (freeing : Bool) → CanLeave s r p n freeing → Leavable n s r p freeing
leavable s r p n freeing c =
    let a = c.asked.at_root in
    record {
      sized = a.sized;
      tree = tree_of s a.sized a.formed;
      root = a.is_root;
      range = λ i l. omega (arith, c.asked.pages);
      mapped = λ i l. omega (arith, c.ready.mapped i l);
      foreign = λ f i l q. c.ready.foreign (f, i, l, q);
    }
