-- `well_formed::pointers::root_ok` meets its contract. Assumes nothing.
use Rattle.std.proofs.Common.{◌≡◌, ◌+◌, arith}
use Rattle.store.proofs.Tests.{says_map}
use Rattle.well_formed.proofs.Slices.{part_to, part_back}
use Rattle.well_formed.proofs.pointers.root_ok.Goals as goal

pub returns-then-pointers : goal.returns-then-pointers
returns-then-pointers c =
    let a = c.args in
    says_map c.zeros.result
    (λ z. record { low = c.if-pointers.ensures; high = part_to a.words.now (a.a + 256) (a.a + 512) (omega arith) c.requires (λ x. x ≡ 0) z })
    (λ r. part_back a.words.now (a.a + 256) (a.a + 512) (omega arith) c.requires (λ x. x ≡ 0) r.high)
    c.zeros.ensures
