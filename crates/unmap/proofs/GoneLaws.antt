-- What leaving pages means: they are gone, all others are as they were, and their pool frames are free again. Assumes nothing.
use mathlib.Core.Path.{◌≡◌, refl, sym, ap, ap₂, ◌∙◌}
use mathlib.Core.Logic.{by_cases}
use mathlib.Core.Bool.{Bool, true, false, true≢false, cond}
use mathlib.Core.List.{List}
use Prim.Native.Nat.{ℕ, zero, suc, ◌+◌, ◌^◌, ◌<◌}
use native.Mathlib.Nat.{add-zero, add-suc, suc-add}
use native.Mathlib.Decide.{ℕ_discrete, dec_lt}
use native.Mathlib.Omega.{arith}
use lib.ListN.{length, get_or-eq_default}
use Rattle.store.specs.Store.{Store, mark, frame_no, pool_no}
use Rattle.store.specs.Count.{free_frames}
use Rattle.store.specs.Walk.{resolve}
use Rattle.store.specs.Outcome.{NoReason}
use Rattle.store.proofs.Tree.{top, well_formed_of}
use Rattle.well_formed.specs.Root.{Asked}
use Rattle.unmap.specs.Leave.{LeaveReason, leave_page, leave_pages}
use Rattle.unmap.specs.Gone.{in_pool, pool_pages, Gone}
use Rattle.unmap.proofs.LeavePage.{Left}
use Rattle.unmap.proofs.LeavePages.{Leavable, leavable, first_left, others_may}
use Rattle.unmap.proofs.UnmapReasons.{leave_where}

-- a frame that is free stays free
stays : (s s' : Store) (r p : ℕ) (freeing : Bool) → Left s s' r p freeing → (f : ℕ) → mark s.fmarks f ≡ 0 → mark s'.fmarks f ≡ 0
stays s s' r p false g f z = g.kept f (λ y q. true≢false (sym y)) ∙ z
stays s s' r p true g f z =
    by_cases (ℕ_discrete (frame_no (resolve s r p)) (pool_no f))
    (λ q. by_cases (dec_lt f (length s.fmarks)) (λ l. g.freed refl f l q) (λ l. get_or-eq_default s'.fmarks 0 (omega (arith, g.frames))))
    (λ n. g.kept f (λ y q. n q) ∙ z)

stay : (n : ℕ) (s : Store) (r p : ℕ) (freeing : Bool) → Leavable n s r p freeing → (f : ℕ) → mark s.fmarks f ≡ 0 → mark (leave_pages s r p n freeing).fmarks f ≡ 0
unfolding leave_pages
stay zero s r p freeing c f z = z
stay (suc n) s r p freeing c f z =
    stay n (leave_page s r p freeing) r (suc p) freeing (others_may n s r p freeing c) f (stays s (leave_page s r p freeing) r p freeing (first_left n s r p freeing c) f z)

-- pages that resolve alike have as many pool frames
pool_same : (n : ℕ) (s s' : Store) (r p : ℕ) → length s'.fmarks ≡ length s.fmarks → ((i : ℕ) → i < n → resolve s' r (p + i) ≡ resolve s r (p + i)) → pool_pages s' r p n ≡ pool_pages s r p n
unfolding pool_pages
pool_same zero s s' r p l e = refl
pool_same (suc n) s s' r p l e =
    ap₂ ◌+◌ (ap₂ in_pool l (sym (ap (resolve s' r) (add-zero p)) ∙ e 0 (omega arith) ∙ ap (resolve s r) (add-zero p)))
    (pool_same n s s' r (suc p) l (λ i q. ap (resolve s' r) (suc-add p i ∙ sym (add-suc p i)) ∙ e (suc i) (omega arith) ∙ ap (resolve s r) (add-suc p i ∙ sym (suc-add p i))))

module _ (n : ℕ) (s : Store) (r p : ℕ) (freeing : Bool) (c : Leavable (suc n) s r p freeing) (s₂ : Store) where
  abbrev s₁ : Store
  s₁ = leave_page s r p freeing

  g : Left s s₁ r p freeing
  g = first_left n s r p freeing c

  h : p + n < 2 ^ 26
  h = c.range n (omega arith)

  -- the pages after the first resolve as before it left
  later : (i : ℕ) → i < n → resolve s₁ r (suc p + i) ≡ resolve s r (suc p + i)
  unfolding top
  later i l = g.rest r 2 (suc p + i) c.root (omega (arith, h)) (omega arith) (λ a b d. omega arith)

  next : (i : ℕ) → suc p + i ≡ p + suc i
  next i = suc-add p i ∙ sym (add-suc p i)

  -- the first page, and then the n after it
  module _ (b : Gone s₁ r (suc p) n freeing s₂) (zero_stays : (f : ℕ) → mark s₁.fmarks f ≡ 0 → mark s₂.fmarks f ≡ 0) where
    gone : (i : ℕ) → i < suc n → resolve s₂ r (p + i) ≡ 0
    gone zero l = ap (resolve s₂ r) (add-zero p) ∙ b.others r p (ap (λ (x : List ℕ). mark x r) g.tmarks ∙ c.root) (omega (arith, h)) (λ a x y. omega arith) ∙ g.here
    gone (suc i) l = ap (resolve s₂ r) (sym (next i)) ∙ b.gone i (omega arith)

    freed : freeing ≡ true → (i f : ℕ) → i < suc n → f < length s.fmarks → frame_no (resolve s r (p + i)) ≡ pool_no f → mark s₂.fmarks f ≡ 0
    freed y zero f l k q = zero_stays f (g.freed y f k (ap (λ (x : ℕ). frame_no (resolve s r x)) (sym (add-zero p)) ∙ q))
    freed y (suc i) f l k q =
        b.freed y i f (omega arith) (omega (arith, g.frames)) (ap frame_no (later i (omega arith) ∙ ap (resolve s r) (next i)) ∙ q)

    frames : (x : Bool) → free_frames s₁ ≡ free_frames s + cond x (in_pool (length s.fmarks) (resolve s r p)) 0 → free_frames s₂ ≡ free_frames s₁ + cond x (pool_pages s₁ r (suc p) n) 0
        → free_frames s₂ ≡ free_frames s + cond x (pool_pages s r p (suc n)) 0
    unfolding pool_pages
    frames true u v = omega (arith, u, v, pool_same n s s₁ r (suc p) g.frames later)
    frames false u v = omega (arith, u, v)

    then : Gone s r p (suc n) freeing s₂
    unfolding top
    then = record {
      sized = b.sized;
      well_formed = b.well_formed;
      gone = gone;
      others = λ r' x rr l o.
          b.others r' x (ap (λ (y : List ℕ). mark y r') g.tmarks ∙ rr) l (λ a u v. o a (omega arith) (omega arith))
          ∙ g.rest r' 2 x rr (omega arith) (omega arith) (λ _ a d. o a (omega arith) (omega arith));
      tmarks = b.tmarks ∙ g.tmarks;
      bytes = b.bytes ∙ g.bytes;
      kept = λ f k.
          b.kept f (λ y i l q. k y (suc i) (omega arith) (ap frame_no (ap (resolve s r) (sym (next i)) ∙ sym (later i l)) ∙ q))
          ∙ g.kept f (λ y q. k y 0 (omega arith) (ap (λ (x : ℕ). frame_no (resolve s r x)) (add-zero p) ∙ q));
      freed = freed;
      frames = frames freeing g.count b.frames;
    }

none_gone : (s : Store) (r p : ℕ) (freeing : Bool) → Leavable 0 s r p freeing → Gone s r p 0 freeing s
unfolding pool_pages
none_gone s r p freeing c = record {
  sized = c.sized;
  well_formed = well_formed_of s c.sized c.tree;
  gone = λ i l. absurd (omega arith);
  others = λ r' x rr l o. refl;
  tmarks = refl;
  bytes = refl;
  kept = λ f k. refl;
  freed = λ y i f l. absurd (omega arith);
  frames = go freeing;
}
  where
    go : (b : Bool) → free_frames s ≡ free_frames s + cond b 0 0
    go true = omega arith
    go false = omega arith

pub pages_gone : (n : ℕ) (s : Store) (r p : ℕ) (freeing : Bool) → Leavable n s r p freeing → Gone s r p n freeing (leave_pages s r p n freeing)
unfolding leave_pages
pages_gone zero s r p freeing c = none_gone s r p freeing c
pages_gone (suc n) s r p freeing c =
    let o = others_may n s r p freeing c in
    then n s r p freeing c (leave_pages (leave_page s r p freeing) r (suc p) n freeing) (pages_gone n (leave_page s r p freeing) r (suc p) freeing o) (stay n (leave_page s r p freeing) r (suc p) freeing o)

-- what it means where no reason speaks against it
pub left_gone : (s : Store) (r p n : ℕ) (freeing : Bool) → Asked s r p n → NoReason (LeaveReason s r p n freeing) → Gone s r p n freeing (leave_pages s r p n freeing)
left_gone s r p n freeing a none = pages_gone n s r p freeing (leavable s r p n freeing (record { asked = a; ready = leave_where s r p n freeing none }))
