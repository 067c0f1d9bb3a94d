-- Set-up: its reason, what it leaves, and that it answers in one way. Assumes nothing.
use mathlib.Core.Path.{◌≡◌, refl, sym, ◌∙◌}
use mathlib.Core.Logic.{inl}
use Prim.Native.Nat.{ℕ, zero, suc, ◌<◌}
use native.Mathlib.Omega.{arith}
use lib.ListN.{length, get_or, replicate}
use Rattle.store.specs.Store.{Store, Sized}
use Rattle.store.specs.WellFormed.{WellFormed}
use Rattle.store.specs.Outcome.{Smallest, NoReason}
use Rattle.store.specs.SetUp.{SetUpReason, sizes, fresh, SetUpDone, SetUp}
use Rattle.std.specs.Prelude.{Result}
use Rattle.refusal.specs.declared.Refusal.{Refusal}
use Rattle.store.proofs.Outcomes.{one_outcome}

zero_at : (n i : ℕ) → ◌≡◌ {A = ℕ} (get_or (replicate n 0) i 0) 0
zero_at zero i = refl
zero_at (suc n) zero = refl
zero_at (suc n) (suc i) = zero_at n i

module _ (s : Store) where
  pub no_1 : (Sized s → ⊥) → Smallest (SetUpReason s) 1
  no_1 h = record { applies = sizes h; least = only }
    where
      only : (k : ℕ) → k < 1 → SetUpReason s k → ⊥
      only k l (sizes g) = omega arith

  pub clear : Sized s → NoReason (SetUpReason s)
  clear z k (sizes h) = h z

  -- the store that set-up leaves is well formed
  pub fresh_well_formed : WellFormed (fresh s)
  fresh_well_formed =
      record {
        w1 = λ w l e. zero_at (length s.words) w;
        w2 = λ t l h. absurd (omega (arith, zero_at (length s.tmarks) t));
        w3 = λ w l i. inl (zero_at (length s.words) w);
        w3_root = λ w l e h. zero_at (length s.words) w;
        w4 = λ w l e. inl (zero_at (length s.words) w);
        w5 = λ f l. inl (zero_at (length s.fmarks) f);
      }

  pub one_set_up : (a a' : Result ℕ Refusal) (t t' : Store) → SetUp s a t → SetUp s a' t' → (a ≡ a') × (t ≡ t')
  one_set_up = one_outcome (SetUpReason s) (SetUpDone s) (λ v v' t t' p q. (p.0 ∙ sym q.0, p.1 ∙ sym q.1)) s
