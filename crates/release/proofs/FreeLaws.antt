-- What each way out of `free` says, and that two answers to one call are the same. Assumes nothing.
use mathlib.Core.Path.{◌≡◌, sym, ap, ◌∙◌}
use mathlib.Core.List.{List}
use Prim.Native.Nat.{ℕ}
use Rattle.std.specs.Prelude.{Result, Ok}
use Rattle.refusal.specs.declared.Refusal.{Refusal}
use Rattle.store.specs.Store.{Store, store_of}
use Rattle.store.proofs.Outcomes.{one_outcome}
use Rattle.release.specs.Free.{FreeReason, FreeReady, released, FreeDone, Free}
use Rattle.release.specs.FreeTree.{Trees, trees, free_tree}
use Rattle.release.proofs.FreeReasons.{clear}
use Rattle.release.proofs.Released.{frees_root}

module _ (s : Store) (root : ℕ) where
  -- two answers to one call are the same, and so are the stores
  pub one_free : (a a' : Result ℕ Refusal) (t t' : Store) → Free s root a t → Free s root a' t' → (a ≡ a') × (t ≡ t')
  one_free = one_outcome (FreeReason s root) (FreeDone s root) (λ v v' t t' x y. (x.0 ∙ sym y.0, x.1 ∙ sym y.1)) s

  pub done : FreeReady s root → (ws ms : List ℕ) (v : ℕ) → trees ws ms v ≡ free_tree 2 root s.words s.tmarks → Free s root (Ok v) (store_of ws ms s.bytes s.fmarks)
  unfolding released
  done f ws ms v e =
      let q = e ∙ frees_root s f.at_root.sized f.at_root.formed root f.at_root.is_root in
      (clear s root f, (ap (λ (x : Trees). x.count) q, ap (λ (x : Trees). store_of x.words x.tmarks s.bytes s.fmarks) q))
