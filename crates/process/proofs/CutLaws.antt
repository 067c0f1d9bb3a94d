-- Stores of which the pages of a root from some page on have gone, and a root that cannot be named. Assumes nothing.
use mathlib.Core.Path.{◌≡◌, refl, sym, ap, ◌∙◌}
use mathlib.Core.Logic.{inl, by_cases}
use mathlib.Core.Bool.{true, false}
use Prim.Native.Nat.{ℕ, zero, suc, ◌+◌, ◌^◌, ◌<◌}
use native.Mathlib.Nat.{add-zero}
use native.Mathlib.Decide.{ℕ_discrete}
use native.Mathlib.Omega.{arith}
use Rattle.std.specs.Prelude.{Err}
use Rattle.refusal.specs.declared.Refusal.{Refusal}
use Rattle.refusal.specs.Number.{number_of}
use Rattle.store.specs.Store.{Store}
use Rattle.store.specs.Walk.{resolve}
use Rattle.store.specs.Outcome.{Smallest}
use Rattle.well_formed.specs.Root.{RootReason, RootReady}
use Rattle.unmap.specs.Leave.{leave_slot, leave_pages, CanLeave}
use Rattle.unmap.specs.Gone.{Gone}
use Rattle.unmap.proofs.UnmapReasons as unmapping
use Rattle.unmap.proofs.LeavePages.{leavable}
use Rattle.unmap.proofs.GoneLaws.{pages_gone}
use Rattle.shrink.specs.Sizes.{pages_to}
use Rattle.process.specs.Parts.{UvmFree}
use Rattle.process.specs.PartsReady.{Cut}
use Rattle.release.proofs.FreeReasons.{by_root}
use Rattle.process.proofs.StillRoot.{still_root}

-- nothing has gone
pub whole : (s : Store) (root : ℕ) → RootReady s root → Cut s root (2 ^ 26) s
whole s root r = record { at_root = r; below = λ p l. refl; gone = λ p h l. absurd (omega arith); frames = refl }

-- the highest page that is left goes without freeing
module _ (s : Store) (root top : ℕ) (t : Store) (c : Cut s root (top + 1) t) (can : CanLeave t root top 1 false) where
  abbrev u : Store
  u = leave_pages t root top 1 false

  g : Gone t root top 1 false u
  g = pages_gone 1 t root top false (leavable t root top 1 false can)

  other : (p : ℕ) → p < 2 ^ 26 → (p ≡ top → ⊥) → resolve u root p ≡ resolve t root p
  other p l n = g.others root p c.at_root.is_root l (λ a b d. n (omega arith))

  pub one_less : Cut s root top u
  unfolding leave_pages leave_slot
  one_less = record {
    at_root = still_root t root top 1 false u c.at_root.is_root g;
    below = λ p l. other p (omega (arith, can.asked.pages)) (omega arith) ∙ c.below p (omega arith);
    gone = λ p h l.
        by_cases (ℕ_discrete p top) (λ e. ap (resolve u root) (e ∙ sym (add-zero top)) ∙ g.gone 0 (omega arith))
        (λ n. other p l n ∙ c.gone p (omega arith) l);
    frames = c.frames;
  }

-- ---- 1, 2 and 3 are refused by the first part, whichever it is

pub root_refused : (s : Store) (root size : ℕ) (k : Refusal) → Smallest (RootReason s root) (number_of k) → UvmFree root size s (Err k) s
root_refused s root zero k m = (by_root s root (number_of k) m, refl)
root_refused s root (suc size) k m = (inl (unmapping.by_root s root 0 (pages_to (suc size)) true (number_of k) m, refl), refl)
