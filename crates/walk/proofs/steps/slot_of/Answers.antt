-- `walk::steps::slot_of` meets its contract: three reads, one below the other. Assumes nothing.
use mathlib.Core.Path.{ap, ◌∙◌}
use Prim.Native.Nat.{ℕ, ◌/◌, ◌%◌}
use Rattle.store.specs.Walk.{slot_word, slot_in, slot}
use Rattle.walk.proofs.steps.slot_of.Goals as goal

pub returns : goal.returns
unfolding slot
returns c =
    let a = c.args in
    c.slot_in-2.ensures
    ∙ ap (λ (e : ℕ). slot_in e (a.page % 512))
    (c.slot_word-middle.ensures
    ∙ ap (slot_word a.words.now) (c.slot_in.ensures ∙ ap (λ (e : ℕ). slot_in e (a.page / 512 % 512)) c.slot_word-top.ensures))
