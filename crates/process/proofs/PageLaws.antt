-- A page that leaves without freeing before the other parts: what each way out of the judges says, and what doing it makes of a store. Assumes nothing.
use mathlib.Core.Path.{◌≡◌, refl, ap, ◌∙◌, subst}
use mathlib.Core.Logic.{inl, inr}
use mathlib.Core.Bool.{false}
use Prim.Native.Nat.{ℕ, ◌+◌, ◌/◌, ◌%◌}
use native.Mathlib.Omega.{arith}
use Rattle.std.specs.Prelude.{Result, Ok, Err}
use Rattle.refusal.specs.declared.Refusal.{Refusal}
use Rattle.refusal.specs.Number.{number_of}
use Rattle.store.specs.Store.{Store}
use Rattle.store.specs.Outcome.{Smallest}
use Rattle.unmap.specs.Leave.{LeaveReason, LeaveReady, leave_pages, CanLeave}
use Rattle.unmap.specs.Unmap.{UnmapReason, UnmapReady}
use Rattle.unmap.proofs.UnmapReasons.{by_pages}
use Rattle.unmap.proofs.UnmapLaws.{may_leave, left_done}
use Rattle.process.specs.Parts.{Then, UvmFree, UnmapOne, trampoline, trapframe, SharedFree, ProcFree}
use Rattle.process.specs.PartsReady.{JudgesParts, RestReady, PageReady, SharedReady, ProcReady, Cut, JudgesRest}
use Rattle.process.proofs.LeaveSame.{SamePages, ready_same, smallest_same}
use Rattle.process.proofs.CutLaws.{whole, one_less}

-- ---- a page at va, and then Q, where F is enough for Q

module _ (root va : ℕ) (Q : Store → Result ℕ Refusal → Store → Type 0) (s : Store) where
  page_refused : (k : Refusal) → Smallest (UnmapReason s root va 1 false) (number_of k) → Then (UnmapOne root va) Q s (Err k) s
  page_refused k m = (inl (m, refl), refl)

  module _ (aligned : va % 4096 ≡ 0) (c : CanLeave s root (va / 4096) 1 false) where
    abbrev t : Store
    t = leave_pages s root (va / 4096) 1 false

    gone : UnmapOne root va s (Ok 0) t
    gone = left_done s root va 1 false aligned c

    page_then : (F : Store → Type 0) (r : Result Unit Refusal) → JudgesParts Q F t r → JudgesParts (Then (UnmapOne root va) Q) (PageReady root (va / 4096) F) s r
    page_then F (Ok u) f = record { leave = c; rest = f }
    page_then F (Err k) q = (inr (0, t, gone, q), refl)

    page_done : (v : ℕ) (u : Store) → Q t (Ok v) u → Then (UnmapOne root va) Q s (Ok v) u
    page_done v u q = (0, t, gone, q)

-- ---- TRAMPOLINE can leave

module _ (s : Store) (root size : ℕ) (f : UnmapReady s root trampoline 1 false) where
  can : CanLeave s root (trampoline / 4096) 1 false
  can = may_leave s root trampoline 1 false f (omega arith)

  -- without TRAMPOLINE
  abbrev s₁ : Store
  s₁ = leave_pages s root (trampoline / 4096) 1 false

  cut : Cut s root (trampoline / 4096) s₁
  cut = one_less s root (trampoline / 4096) s (whole s root f.at_root) can

  pub shared_judged : (r : Result Unit Refusal) → JudgesRest s root size (trampoline / 4096) r → JudgesParts (SharedFree root size) (SharedReady root size) s r
  shared_judged r j = page_then root trampoline (UvmFree root size) s refl can (RestReady root size) r (j s₁ cut)

  -- ---- and then TRAPFRAME is judged, on the store as it is

  same : SamePages s s₁ root (trapframe / 4096) 1
  same = record { pages = λ n h. cut.below (trapframe / 4096 + n) (omega arith); frames = cut.frames }

  -- TRAMPOLINE, and then the others
  both : (r : Result Unit Refusal) → JudgesParts (Then (UnmapOne root trapframe) (UvmFree root size)) (PageReady root (trapframe / 4096) (RestReady root size)) s₁ r
      → JudgesParts (ProcFree root size) (ProcReady root size) s r
  both = page_then root trampoline (Then (UnmapOne root trapframe) (UvmFree root size)) s refl can (PageReady root (trapframe / 4096) (RestReady root size))

  pub trapframe_refused : (k : Refusal) → Smallest (LeaveReason s root (trapframe / 4096) 1 false) (number_of k) → ProcFree root size s (Err k) s
  trapframe_refused k m =
      both (Err k)
      (page_refused root trapframe (UvmFree root size) s₁ k
      (by_pages s₁ root trapframe 1 false cut.at_root (λ h. omega (arith, h.1, h.2)) refl (Err k) (smallest_same same false (number_of k) m)))

  pub proc_judged : LeaveReady s root (trapframe / 4096) 1 false → (r : Result Unit Refusal) → JudgesRest s root size (trapframe / 4096) r → JudgesParts (ProcFree root size) (ProcReady root size) s r
  proc_judged g r j =
      let c : CanLeave s₁ root (trapframe / 4096) 1 false = record { asked = record { at_root = cut.at_root; pages = omega arith }; ready = ready_same same false g } in
      both r
      (page_then root trapframe (UvmFree root size) s₁ refl c (RestReady root size) r
      (j (leave_pages s₁ root (trapframe / 4096) 1 false) (one_less s root (trapframe / 4096) s₁ cut c)))

-- ---- the work, where it can be done: t is the store that the pages before leave

module _ (s : Store) (root size : ℕ) (t : Store) (e : t ≡ leave_pages s root (trampoline / 4096) 1 false) where
  pub shared_done : SharedReady root size s → (v : ℕ) (u : Store) → UvmFree root size t (Ok v) u → SharedFree root size s (Ok v) u
  shared_done f v u d =
      page_done root trampoline (UvmFree root size) s refl f.leave v u (subst (λ (x : Store). UvmFree root size x (Ok v) u) e d)

  module _ (t' : Store) (e' : t' ≡ leave_pages t root (trapframe / 4096) 1 false) where
    both_gone : t' ≡ leave_pages (leave_pages s root (trampoline / 4096) 1 false) root (trapframe / 4096) 1 false
    both_gone = e' ∙ ap (λ (x : Store). leave_pages x root (trapframe / 4096) 1 false) e

    pub proc_done : ProcReady root size s → (v : ℕ) (u : Store) → UvmFree root size t' (Ok v) u → ProcFree root size s (Ok v) u
    proc_done f v u d =
        page_done root trampoline (Then (UnmapOne root trapframe) (UvmFree root size)) s refl f.leave v u
        (page_done root trapframe (UvmFree root size) (leave_pages s root (trampoline / 4096) 1 false) refl f.rest.leave v u
        (subst (λ (x : Store). UvmFree root size x (Ok v) u) both_gone d))
