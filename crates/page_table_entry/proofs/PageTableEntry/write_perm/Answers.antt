-- `page_table_entry::PageTableEntry::write_perm` meets its contract. Assumes nothing.
use mathlib.Core.Path.{◌≡◌, ap, ◌∙◌}
use Prim.Native.Nat.{ℕ}
use native.Mathlib.Omega.{arith}
use lib.Bits.{bit_or}
use Rattle.std.proofs.lemmas.Result.{err_from_is_err_and}
use Rattle.address.specs.Answer.{said, answered}
use Rattle.page_table_entry.specs.Built.{name_of}
use Rattle.page_table_entry.proofs.Built.{eight, frame_refused, name_answered, entry, joined, is_written}
use Rattle.page_table_entry.proofs.PageTableEntry.write_perm.Goals as goal

pub returns-then-perm-gt-FLAGS : goal.returns-then-perm-gt-FLAGS
unfolding said
returns-then-perm-gt-FLAGS c = is_written _ _ _ (eight _ _ (omega arith))

pub returns-in_err-e : goal.returns-in_err-e
unfolding said
returns-in_err-e c =
    let p = err_from_is_err_and c.from_residual.result c.from_residual.ensures.1 in
    rw (p.1, p.2) (is_written _ _ _ (frame_refused _ _ (omega arith) _ c.in_err-e.ensures.whole))

pub returns : goal.returns
unfolding said
returns c =
    let e = name_answered _ _ c.in_ok-e.ensures.whole in
    let same : (x : ℕ) → x ≡ name_of c.args.pa.0 → bit_or x c.args.perm ≡ bit_or (name_of c.args.pa.0) c.args.perm = λ x q. ap (λ (y : ℕ). bit_or y c.args.perm) q in
    is_written _ _ _ (ap answered (omega (arith, same, joined c.args.pa.0 c.args.perm (omega arith))) ∙ entry _ _ (omega arith) e.1)
