-- `copies::bytes::write_bytes` meets its contract. The invariant: the bytes that are left to write give the whole. Assumes nothing.
use borrow.Author.Rules.{rules}
use mathlib.Core.Logic.{inl}
use native.Mathlib.Omega.{arith}
use Rattle.copies.proofs.BytesCode.{write_more, write_all}
use Rattle.copies.proofs.PageReasons.{placed}
use Rattle.copies.proofs.bytes.write_bytes.Goals as goal

pub overflow_add-a : goal.overflow_add-a
overflow_add-a c = let p = c.requires.pages c.loop-i.i (inl c.loop-i-test.true) in omega (arith, p.below)

pub place-to-requires : goal.place-to-requires
place-to-requires c = placed _ _ _ c.requires.at_root (c.requires.pages _ (inl c.loop-i-test.true))

pub loop-i-preserved : goal.loop-i-preserved
loop-i-preserved c =
    (omega arith, search rules, write_more _ _ _ _ _ _ _ c.loop-i.invariant.2 c.requires c.loop-i-test.true c.loop-i.invariant.1 _ _ c.min-k.ensures (c.place-to.ensures _ _ _) _ c.copy_bytes.ensures)

pub returns : goal.returns
returns c = write_all _ _ _ _ _ _ _ c.loop-i.invariant.2 (omega arith)
