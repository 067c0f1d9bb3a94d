-- What the judges of the calls made of parts answer. They read the store as it is, and speak of what the parts before would leave.
use Rattle.std.specs.Prelude.{◌≡◌, true, false, ℕ, ◌/◌, ◌^◌, ◌≤◌, ◌<◌, length, Result, Ok, Err}
use Rattle.refusal.specs.declared.Refusal.{Refusal}
use Rattle.store.specs.Store.{Store}
use Rattle.store.specs.Walk.{resolve}
use Rattle.well_formed.specs.Root.{RootReady}
use Rattle.unmap.specs.Leave.{leave_pages, CanLeave}
use Rattle.shrink.specs.Sizes.{pages_to}
use Rattle.release.specs.Free.{FreeReady}
use Rattle.process.specs.Parts.{UvmFree, trampoline, trapframe}

-- what a judge of call P answers on s: what P is refused with, or that F holds of s
abbrev pub JudgesParts : (P : Store → Result ℕ Refusal → Store → Type 0) → (F : Store → Type 0) → Store → Result Unit Refusal → Type 0
JudgesParts P F s (Ok u) = F s
JudgesParts P F s (Err r) = P s (Err r) s

-- the pages of size can leave with freeing, and then the root can be freed
pub record RestReady (root size : ℕ) (s : Store) : Type 0 where
  pub leave : CanLeave s root 0 (pages_to size) true
  pub free : FreeReady (leave_pages s root 0 (pages_to size) true) root

-- page p can leave without freeing, and then F holds
pub record PageReady (root p : ℕ) (F : Store → Type 0) (s : Store) : Type 0 where
  pub leave : CanLeave s root p 1 false
  pub rest : F (leave_pages s root p 1 false)

abbrev pub SharedReady : ℕ → ℕ → Store → Type 0
SharedReady root size s = PageReady root (trampoline / 4096) (RestReady root size) s

abbrev pub ProcReady : ℕ → ℕ → Store → Type 0
ProcReady root size s = PageReady root (trampoline / 4096) (PageReady root (trapframe / 4096) (RestReady root size)) s

-- s' is s where the pages of the root from page top on have gone
pub record Cut (s : Store) (root top : ℕ) (s' : Store) : Type 0 where
  pub at_root : RootReady s' root
  pub below : (p : ℕ) → p < top → resolve s' root p ≡ resolve s root p
  pub gone : (p : ℕ) → top ≤ p → p < 2 ^ 26 → resolve s' root p ≡ 0
  pub frames : length s'.fmarks ≡ length s.fmarks

-- r judges the last parts, those of `UvmFree`, where the pages from page top on have gone before
abbrev pub JudgesRest : Store → ℕ → ℕ → ℕ → Result Unit Refusal → Type 0
JudgesRest s root size top r = (s' : Store) → Cut s root top s' → JudgesParts (UvmFree root size) (RestReady root size) s' r
