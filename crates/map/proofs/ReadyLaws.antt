-- Where no reason to refuse `map` applies, entering its pages does what demand 3 says. Assumes nothing.
use Prim.Native.Nat.{ℕ, ◌+◌, ◌/◌}
use native.Mathlib.Omega.{arith}
use Rattle.page_table_entry.specs.Built.{entry_of}
use Rattle.rounding.specs.Range.{first_page}
use Rattle.store.specs.Store.{Store}
use Rattle.map.specs.Numbers.{pages_of}
use Rattle.map.specs.Reasons.{MapReady}
use Rattle.enter.specs.Enter.{enter_pages}
use Rattle.map.specs.Demand3.{Fit, Room, Entered}
use Rattle.map.proofs.Entered.{outside_of, entered_at}

module _ (s : Store) (root va pa size perm : ℕ) (ready : MapReady s root va pa size perm) where
  pub fit : Fit s root (first_page va) (pages_of va size) (pa / 4096) perm
  fit = record {
    sized = ready.at_root.sized;
    well_formed = ready.at_root.formed;
    root = ready.at_root.is_root;
    pages = λ i l. omega (arith, ready.numbers.pages (omega arith));
    permissions = ready.numbers.perms;
    frames = ready.numbers.frames;
    outside = λ i l. outside_of (pa / 4096 + i) (λ a b. ready.numbers.outside i l (record { from = a; upto = b }));
  }

  pub room : Room s root (first_page va) (pages_of va size)
  room = record {
    unmapped = λ i l. ready.unmapped (first_page va + i) (omega arith) (omega arith);
    tables = ready.enough;
  }

  pub ready_entered : Entered s root (first_page va) (pages_of va size) (pa / 4096) perm (enter_pages s root (first_page va) (pages_of va size) (entry_of pa perm))
  ready_entered = entered_at s root (first_page va) (pages_of va size) pa perm fit room
