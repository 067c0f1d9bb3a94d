-- What each way out of `copy_in` and `copy_out` says, and that two answers to one call are the same. Assumes nothing.
use mathlib.Core.Path.{◌≡◌, refl, sym, ap, ◌∙◌}
use mathlib.Core.List.{List}
use Prim.Native.Nat.{ℕ}
use lib.ListN.{length}
use Rattle.std.specs.Prelude.{Result, Ok}
use Rattle.refusal.specs.declared.Refusal.{Refusal}
use Rattle.store.specs.Store.{Store, store_of}
use Rattle.store.proofs.Outcomes.{one_outcome}
use Rattle.copies.specs.Bytes.{bytes_at, written}
use Rattle.copies.specs.Needed.{CopyReason, CopyReady}
use Rattle.copies.specs.InOut.{InDone, In, OutDone, Out}
use Rattle.copies.proofs.CopyReasons.{copy_clear}

-- b is the kernel's buffer
module _ (s : Store) (root va : ℕ) (b : List ℕ) where
  abbrev R : ℕ → Type 0
  R = CopyReason s root va (length b)

  abbrev F : Type 0
  F = CopyReady s root va (length b)

  -- ---- copy_in

  pub in_done : F → (b' : List ℕ) → b' ≡ bytes_at s root va (length b) → In s root va b (Ok 0) b'
  in_done f b' e = (copy_clear s root va (length b) f, (refl, e))

  -- two answers to one call are the same, and so are the buffers
  pub one_in : (a a' : Result ℕ Refusal) (t t' : List ℕ) → In s root va b a t → In s root va b a' t' → (a ≡ a') × (t ≡ t')
  one_in = one_outcome R (InDone s root va b) (λ v v' t t' x y. (x.0 ∙ sym y.0, x.1 ∙ sym y.1)) b

  -- ---- copy_out

  pub out_done : F → (bs' : List ℕ) → bs' ≡ written s root va b s.bytes → Out s root va b (Ok 0) (store_of s.words s.tmarks bs' s.fmarks)
  out_done f bs' e = (copy_clear s root va (length b) f, (refl, ap (λ (x : List ℕ). store_of s.words s.tmarks x s.fmarks) e))

  -- two answers to one call are the same, and so are the stores
  pub one_out : (a a' : Result ℕ Refusal) (t t' : Store) → Out s root va b a t → Out s root va b a' t' → (a ≡ a') × (t ≡ t')
  one_out = one_outcome R (OutDone s root va b) (λ v v' t t' x y. (x.0 ∙ sym y.0, x.1 ∙ sym y.1)) s
