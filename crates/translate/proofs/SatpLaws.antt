-- `as_satp` answers in one way. Assumes nothing.
use mathlib.Core.Path.{◌≡◌, sym, ◌∙◌}
use Prim.Native.Nat.{ℕ}
use Rattle.std.specs.Prelude.{Result}
use Rattle.refusal.specs.declared.Refusal.{Refusal}
use Rattle.store.specs.Store.{Store}
use Rattle.store.proofs.Outcomes.{one_outcome}
use Rattle.well_formed.specs.Root.{RootReason}
use Rattle.translate.specs.Satp.{SatpDone, Satp}

pub one_satp : (s : Store) (root : ℕ) (a a' : Result ℕ Refusal) → Satp s root a → Satp s root a' → a ≡ a'
one_satp s root a a' p q = (one_outcome (RootReason s root) (SatpDone s root) (λ v v' t t' x y. (x.0 ∙ sym y.0, x.1 ∙ sym y.1)) s a a' s s p q).0
