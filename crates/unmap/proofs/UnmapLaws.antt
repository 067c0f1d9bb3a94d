-- What each way out of `uvm_unmap` says, and that two answers to one call are the same. Assumes nothing.
use mathlib.Core.Path.{◌≡◌, refl, sym, ap, ◌∙◌, subst}
use mathlib.Core.Bool.{Bool}
use Prim.Native.Nat.{ℕ, ◌/◌, ◌%◌}
use native.Mathlib.Omega.{arith}
use Rattle.std.specs.Prelude.{Result, Ok}
use Rattle.refusal.specs.declared.Refusal.{Refusal}
use Rattle.store.specs.Store.{Store}
use Rattle.store.proofs.Outcomes.{one_outcome}
use Rattle.well_formed.specs.Root.{Asked}
use Rattle.unmap.specs.Leave.{leave_pages, CanLeave}
use Rattle.unmap.specs.Unmap.{UnmapReason, pages, UnmapReady, UnmapDone, Unmap}
use Rattle.unmap.specs.Gone.{Gone}
use Rattle.unmap.proofs.UnmapReasons.{within, clear}
use Rattle.unmap.proofs.GoneLaws.{left_gone}

module _ (s : Store) (root va n : ℕ) (freeing : Bool) where
  -- two answers to one call are the same, and so are the stores
  pub one_unmap : (a a' : Result ℕ Refusal) (t t' : Store) → Unmap s root va n freeing a t → Unmap s root va n freeing a' t' → (a ≡ a') × (t ≡ t')
  one_unmap = one_outcome (UnmapReason s root va n freeing) (UnmapDone s root va n freeing) (λ v v' t t' x y. (x.0 ∙ sym y.0, x.1 ∙ sym y.1)) s

  module _ (f : UnmapReady s root va n freeing) where
    pub done_none : n ≡ 0 → Unmap s root va n freeing (Ok 0) s
    unfolding leave_pages
    done_none h = (clear s root va n freeing f, (refl, ap (λ (k : ℕ). leave_pages s root (va / 4096) k freeing) (sym h)))

    pub may_leave : (n ≡ 0 → ⊥) → CanLeave s root (va / 4096) n freeing
    may_leave h = record {
      asked = record { at_root = f.at_root; pages = within (va / 4096) n (omega arith) f.below };
      ready = f.pages;
    }

    pub done_all : (s' : Store) → s' ≡ leave_pages s root (va / 4096) n freeing → Unmap s root va n freeing (Ok 0) s'
    done_all s' e = (clear s root va n freeing f, (refl, e))

  -- pages from an aligned address on that can leave do so
  pub left_done : va % 4096 ≡ 0 → CanLeave s root (va / 4096) n freeing → Unmap s root va n freeing (Ok 0) (leave_pages s root (va / 4096) n freeing)
  left_done e c =
      let a = c.asked in
      done_all (record { at_root = a.at_root; below = λ h. omega (arith, h.1, h.2, a.pages); aligned = e; pages = c.ready }) (leave_pages s root (va / 4096) n freeing) refl

  -- what a success means, where pages may be asked about
  pub unmap_gone : (v : ℕ) (s' : Store) → Asked s root (va / 4096) n → Unmap s root va n freeing (Ok v) s' → Gone s root (va / 4096) n freeing s'
  unmap_gone v s' a u = subst (Gone s root (va / 4096) n freeing) (sym u.1.1) (left_gone s root (va / 4096) n freeing a (λ k x. u.0 k (pages x)))
