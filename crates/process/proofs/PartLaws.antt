-- The calls made of parts: two answers to one call are the same, and what a success means. Assumes nothing.
use mathlib.Core.Path.{◌≡◌, sym, ap, ◌∙◌, subst}
use mathlib.Core.Logic.{inl, inr}
use mathlib.Core.Bool.{Bool, true, false}
use Prim.Native.Nat.{ℕ, zero, suc, ◌+◌, ◌/◌, ◌<◌}
use native.Mathlib.Omega.{arith}
use Rattle.std.specs.Prelude.{Result, Ok, Err}
use Rattle.refusal.specs.declared.Refusal.{Refusal}
use Rattle.store.specs.Store.{Store}
use Rattle.store.specs.Walk.{resolve}
use Rattle.well_formed.specs.Root.{RootReady, Asked}
use Rattle.unmap.specs.Leave.{PoolFrame, pooled}
use Rattle.unmap.specs.Unmap.{too_high, pages, Unmap}
use Rattle.unmap.proofs.UnmapReasons.{within}
use Rattle.unmap.proofs.UnmapLaws.{one_unmap, unmap_gone}
use Rattle.shrink.specs.Sizes.{pages_to}
use Rattle.release.specs.Free.{mapped, Free}
use Rattle.process.specs.Parts.{Then, UvmFree, UnmapOne, trampoline, trapframe, SharedFree, ProcFree}
use Rattle.process.specs.RootGone.{RootGone}
use Rattle.release.proofs.FreeLaws.{one_free}
use Rattle.release.proofs.FreedLaws.{free_freed}
use Rattle.process.proofs.RootGoneLaws.{bare_gone, root_left, gone_before}

-- ---- two answers to one call are the same, and so are the stores

abbrev pub One : (Store → Result ℕ Refusal → Store → Type 0) → Type 0
One p = (s : Store) (a a' : Result ℕ Refusal) (t t' : Store) → p s a t → p s a' t' → (a ≡ a') × (t ≡ t')

kind : Result ℕ Refusal → ℕ
kind (Err n) = 0
kind (Ok v) = 1

module _ (p q : Store → Result ℕ Refusal → Store → Type 0) (one_p : One p) (one_q : One q) where
  -- the stores that the first part leaves, and what the second makes of them
  second : (s : Store) (v v' : ℕ) (s₁ s₁' : Store) (a a' : Result ℕ Refusal) (t t' : Store) → p s (Ok v) s₁ → p s (Ok v') s₁' → q s₁ a t → q s₁' a' t' → (a ≡ a') × (t ≡ t')
  second s v v' s₁ s₁' a a' t t' x x' y y' =
      one_q s₁ a a' t t' y (subst (λ (u : Store). q u a' t') (sym (one_p s (Ok v) (Ok v') s₁ s₁' x x').1) y')

  -- the first part does not both refuse and succeed
  never : (s : Store) (n : Refusal) (v : ℕ) (t : Store) → p s (Err n) s → p s (Ok v) t → ⊥
  unfolding kind
  never s n v t x y = let e : ◌≡◌ {A = ℕ} 0 1 = ap kind (one_p s (Err n) (Ok v) s t x y).0 in omega arith

  pub one_then : One (Then p q)
  unfolding kind
  one_then s (Err m) (Err n) t t' (inl x, e) (inl y, e') = ((one_p s (Err m) (Err n) s s x y).0, e ∙ sym e')
  one_then s (Err m) (Err n) t t' (inl x, e) (inr (v, s₁, y, z), e') = absurd (never s m v s₁ x y)
  one_then s (Err m) (Err n) t t' (inr (v, s₁, y, z), e) (inl x, e') = absurd (never s n v s₁ x y)
  one_then s (Err m) (Err n) t t' (inr (v, s₁, y, z), e) (inr (v', s₁', y', z'), e') = ((second s v v' s₁ s₁' (Err m) (Err n) s₁ s₁' y y' z z').0, e ∙ sym e')
  one_then s (Err m) (Ok w) t t' (inl x, e) (v, s₁, y, z) = absurd (never s m v s₁ x y)
  one_then s (Err m) (Ok w) t t' (inr (v, s₁, y, z), e) (v', s₁', y', z') =
      let d : ◌≡◌ {A = ℕ} 0 1 = ap kind (second s v v' s₁ s₁' (Err m) (Ok w) s₁ t' y y' z z').0 in absurd (omega arith)
  one_then s (Ok w) (Err n) t t' (v, s₁, y, z) (inl x, e) = absurd (never s n v s₁ x y)
  one_then s (Ok w) (Err n) t t' (v, s₁, y, z) (inr (v', s₁', y', z'), e) =
      let d : ◌≡◌ {A = ℕ} 1 0 = ap kind (second s v v' s₁ s₁' (Ok w) (Err n) t s₁' y y' z z').0 in absurd (omega arith)
  one_then s (Ok w) (Ok w') t t' (v, s₁, y, z) (v', s₁', y', z') = second s v v' s₁ s₁' (Ok w) (Ok w') t t' y y' z z'

pub one_uvm_free : (root size : ℕ) → One (UvmFree root size)
one_uvm_free root zero = λ s. one_free s root
one_uvm_free root (suc size) =
    one_then (λ t a t'. Unmap t root 0 (pages_to (suc size)) true a t') (λ t a t'. Free t root a t') (λ s. one_unmap s root 0 (pages_to (suc size)) true) (λ s. one_free s root)

pub one_shared_free : (root size : ℕ) → One (SharedFree root size)
one_shared_free root size = one_then (UnmapOne root trampoline) (UvmFree root size) (λ s. one_unmap s root trampoline 1 false) (one_uvm_free root size)

pub one_proc_free : (root size : ℕ) → One (ProcFree root size)
one_proc_free root size =
    one_then (UnmapOne root trampoline) (Then (UnmapOne root trapframe) (UvmFree root size)) (λ s. one_unmap s root trampoline 1 false)
    (one_then (UnmapOne root trapframe) (UvmFree root size) (λ s. one_unmap s root trapframe 1 false) (one_uvm_free root size))

-- ---- what a success means

-- pages have left, and then the root has gone
module _ (s : Store) (root va n : ℕ) (freeing : Bool) (some : 0 < n) (r : RootReady s root) (x : ℕ) (s₁ : Store) (u : Unmap s root va n freeing (Ok x) s₁) where
  asked : Asked s root (va / 4096) n
  asked = record { at_root = r; pages = within (va / 4096) n some (λ h. u.0 6 (too_high h)) }

  foreign : freeing ≡ false → (i : ℕ) → i < n → PoolFrame s (resolve s root (va / 4096 + i)) → ⊥
  foreign b i l m = u.0 10 (pages (pooled (b, i, l, m)))

  then_gone : (v : ℕ) (s' : Store) → (RootReady s₁ root → RootGone s₁ root v s') → RootGone s root v s'
  then_gone v s' q =
      let g = unmap_gone s root va n freeing x s₁ asked u in
      gone_before s root (va / 4096) n freeing s₁ r asked.pages foreign g v s' (q (root_left s root (va / 4096) n freeing s₁ r asked.pages foreign g))

free_gone : (s : Store) (root v : ℕ) (s' : Store) → RootReady s root → Free s root (Ok v) s' → RootGone s root v s'
free_gone s root v s' r u = bare_gone s root v s' r (λ h. u.0 18 (mapped h)) u.1.0 (free_freed s root v s' r u)

pub uvm_free_gone : (root size : ℕ) (s : Store) (v : ℕ) (s' : Store) → RootReady s root → UvmFree root size s (Ok v) s' → RootGone s root v s'
uvm_free_gone root zero s v s' r u = free_gone s root v s' r u
uvm_free_gone root (suc size) s v s' r (x, s₁, u, w) =
    then_gone s root 0 (pages_to (suc size)) true (omega arith) r x s₁ u v s' (λ r₁. free_gone s₁ root v s' r₁ w)

pub shared_free_gone : (root size : ℕ) (s : Store) (v : ℕ) (s' : Store) → RootReady s root → SharedFree root size s (Ok v) s' → RootGone s root v s'
shared_free_gone root size s v s' r (x, s₁, u, w) = then_gone s root trampoline 1 false (omega arith) r x s₁ u v s' (λ r₁. uvm_free_gone root size s₁ v s' r₁ w)

pub proc_free_gone : (root size : ℕ) (s : Store) (v : ℕ) (s' : Store) → RootReady s root → ProcFree root size s (Ok v) s' → RootGone s root v s'
proc_free_gone root size s v s' r (x, s₁, u, (y, s₂, t, w)) =
    then_gone s root trampoline 1 false (omega arith) r x s₁ u v s' (λ r₁.
    then_gone s₁ root trapframe 1 false (omega arith) r₁ y s₂ t v s' (λ r₂. uvm_free_gone root size s₂ v s' r₂ w))
