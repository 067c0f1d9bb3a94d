-- `copies::bytes::read_bytes` meets its contract. The invariant: the first i bytes are read. Assumes nothing.
use borrow.Author.Rules.{rules}
use mathlib.Core.Logic.{inl}
use native.Mathlib.Omega.{arith}
use Rattle.copies.proofs.BytesCode.{read_start, read_more}
use Rattle.copies.proofs.PageReasons.{placed}
use Rattle.copies.proofs.bytes.read_bytes.Goals as goal

pub loop-i-init : goal.loop-i-init
loop-i-init c = (omega arith, search rules, read_start _ _ _ _)

pub overflow_add-a : goal.overflow_add-a
overflow_add-a c = let p = c.requires.pages c.loop-i.i (inl (omega arith)) in omega (arith, p.below)

pub place-from-requires : goal.place-from-requires
place-from-requires c = placed _ _ _ c.requires.at_root (c.requires.pages _ (inl (omega arith)))

pub loop-i-preserved : goal.loop-i-preserved
loop-i-preserved c =
    (omega arith, search rules, read_more _ _ _ _ _ _ c.loop-i.invariant.2 c.requires (omega arith) _ _ _ c.min-k.ensures (c.place-from.ensures _ _ _) _ c.copy_bytes.ensures)
