-- `text::text::Text::put_answer` meets its contract. Assumes nothing.
use mathlib.Core.Path.{subst}
use mathlib.Core.List.{[], ◌∷◌}
use Prim.Native.Nat.{ℕ}
use Rattle.text.specs.Text.{said, LineWrote}
use Rattle.text.proofs.text.Text.put_answer.Goals as goal

pub returns-in-Ok : goal.returns-in-Ok
unfolding said
returns-in-Ok c =
    let w = c.put_line.ensures in
    rw c.in-Ok.is (record { wrote = w.wrote; short = w.short })

pub returns-in-Err : goal.returns-in-Err
unfolding said
returns-in-Err c =
    let w = subst (λ (n : ℕ). LineWrote c.args.self.now (110 ∷ 111 ∷ 32 ∷ []) n c.put_refusal.new.self) c.number.ensures c.put_refusal.ensures in
    rw c.in-Err.is (record { wrote = w.wrote; short = w.short })
