-- Demand 3 holds of `map`. Assumes nothing.
use mathlib.Core.Path.{◌≡◌, refl, sym, subst}
use mathlib.Core.Logic.{⊎_elim, by_cases}
use Prim.Native.Nat.{ℕ, ◌+◌, ◌-◌, ◌/◌, ◌^◌, ◌≤◌}
use native.Mathlib.Decide.{dec_lt}
use native.Mathlib.Omega.{arith}
use Rattle.rounding.specs.Range.{first_page}
use Rattle.store.specs.Store.{Store}
use Rattle.store.specs.Count.{free_tables}
use Rattle.store.specs.Outcome.{NoReason}
use Rattle.walk.specs.Mapped.{Mapped}
use Rattle.walk.specs.Missing.{missing}
use Rattle.map.specs.Numbers.{pages_of}
use Rattle.map.specs.Reasons.{MapReason, MapReady, taken, too_few}
use Rattle.map.specs.Demand3.{Fit, Room, Entered, Kept, Demand3}
use Rattle.map.proofs.ReasonLaws.{clear}
use Rattle.map.proofs.ReadyLaws.{ready_entered}

module _ (s : Store) (root va pa size perm : ℕ) where
  abbrev n : ℕ
  n = pages_of va size

  -- what the refusals 14 and 17 deny
  room_of : NoReason (MapReason s root va pa size perm) → Room s root (first_page va) n
  room_of o = record {
    unmapped = λ i l m. o 14 (taken (first_page va + i) (omega arith) (omega arith) m);
    tables = by_cases (dec_lt (free_tables s) (missing s root (first_page va) n)) (λ l. absurd (o 17 (too_few l))) (λ g. omega arith);
  }

  module _ (fit : Fit s root (first_page va) n (pa / 4096) perm) where
    -- a size above 2 ^ 38 has pages above it
    short : size ≤ 2 ^ 38
    short = by_cases (dec_lt (2 ^ 38) size) (λ l. absurd (omega (arith, fit.pages (n - 1) (omega arith)))) (λ g. omega arith)

    ready : Room s root (first_page va) n → MapReady s root va pa size perm
    ready room = record {
      at_root = record { sized = fit.sized; formed = fit.well_formed; is_root = fit.root };
      numbers = record {
        length = short;
        pages = λ l. omega (arith, fit.pages (n - 1) (omega arith));
        perms = fit.permissions;
        frames = fit.frames;
        outside = λ i l w. ⊎_elim (λ b. omega (arith, w.from)) (λ b. omega (arith, w.upto)) (fit.outside i l);
      };
      unmapped = λ p f t m. let e : p ≡ first_page va + (p - first_page va) = omega arith in room.unmapped (p - first_page va) (omega arith) (subst (Mapped s root) e m);
      enough = room.tables;
    }

    kept : Kept s root va pa size perm
    kept = record {
      exactly = (λ d. room_of d.2.0, λ room. (_, _, (clear _ _ _ _ _ _ (ready room), (refl, refl))));
      entered = λ v s' d. subst (Entered s root (first_page va) n (pa / 4096) perm) (sym d.1.1) (ready_entered s root va pa size perm (ready (room_of d.0)));
      answer = λ v s' d. d.1.0;
    }

pub demand_3 : (s : Store) (root va pa size perm : ℕ) → Demand3 s root va pa size perm
demand_3 = kept
