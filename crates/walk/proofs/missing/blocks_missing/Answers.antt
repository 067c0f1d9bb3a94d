-- `walk::missing::blocks_missing` meets its contract. The invariant: n of the blocks before `block` have no table. Assumes nothing.
use mathlib.Core.Path.{sym, ap, ◌∙◌}
use Prim.Native.Nat.{◌-◌}
use native.Mathlib.Omega.{arith}
use Rattle.store.specs.Walk.{slot_word}
use Rattle.walk.specs.Missing.{entry_under}
use Rattle.store.proofs.Free.{zeros_le}
use Rattle.store.proofs.Parts.{part_none, part_more, part_pass}
use Rattle.walk.proofs.missing.blocks_missing.Goals.{then-entry-eq0, else-entry-eq0}
use Rattle.walk.proofs.missing.blocks_missing.Goals as goal

pub loop-block-init : goal.loop-block-init
loop-block-init c = sym (part_none _ _)

pub loop-block-preserved : goal.loop-block-preserved
loop-block-preserved c =
    let g = entry_under c.args.words.now c.args.top in
    let i = c.loop-block.invariant in
    let read = c.slot_word-entry.ensures ∙ ap (slot_word c.args.words.now) c.slot_in.ensures in
    elim c.if-entry-eq0.branch [
      | then-entry-eq0 w ↦ w.n-is ∙ part_more g _ _ _ c.loop-block.auto.block i (sym read ∙ w.if-entry-eq0.true)
      | else-entry-eq0 w ↦ w.n-is ∙ part_pass g _ _ _ c.loop-block.auto.block i (λ z. w.if-entry-eq0.false (read ∙ z))
    ]

pub overflow_add-n : goal.overflow_add-n
overflow_add-n c = let a = c.args in omega (arith, zeros_le (entry_under a.words.now a.top) (c.loop-block.block - a.first) a.first)
