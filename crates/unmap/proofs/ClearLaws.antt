-- `uvm_clear`: its reasons in order, and that two answers to one call are the same. Assumes nothing.
use mathlib.Core.Path.{◌≡◌, refl, sym, ap, ◌∙◌}
use mathlib.Core.Logic.{◌⊎◌, inl, inr, by_cases}
use mathlib.Core.List.{List}
use Prim.Native.Nat.{ℕ, suc, ◌/◌, ◌^◌, ◌≤◌, ◌<◌}
use native.Mathlib.Decide.{dec_lt}
use native.Mathlib.Nat.{le_refl}
use native.Mathlib.Omega.{arith}
use Rattle.std.specs.Prelude.{Result, Ok, Err}
use Rattle.refusal.specs.declared.Refusal.{Refusal}
use Rattle.refusal.specs.Number.{number_of}
use Rattle.refusal.specs.declared.Refusal.TheVariants.{NotMapped, TooHigh}
use Rattle.page_table_entry.specs.Layout.{bit_u}
use Rattle.page_table_entry.specs.Change.{with_bit}
use Rattle.store.specs.Store.{Store}
use Rattle.store.specs.Walk.{slot_word, slot, entry_at, resolve}
use Rattle.store.specs.Outcome.{Smallest}
use Rattle.store.proofs.Outcomes.{one_outcome}
use Rattle.store.proofs.Tree.{tree_of}
use Rattle.store.proofs.Walk.{carried}
use Rattle.well_formed.specs.Root.{RootReason, RootReady}
use Rattle.well_formed.proofs.RootReasons.{root_clear, root_first}
use Rattle.enter.specs.Enter.{put_slot, stored}
use Rattle.enter.proofs.EnterPage.{page_slot}
use Rattle.unmap.specs.Clear.{ClearReason, at_root, too_high, no_table, ClearDone, Clear}

module _ (s : Store) (root va : ℕ) where
  abbrev R : ℕ → Type 0
  R = ClearReason s root va

  abbrev Table : Type 0
  Table = 0 < entry_at s root 1 (va / 4096 / 512)

  split : (k : ℕ) → R k → RootReason s root k ⊎ (3 < k)
  split k (at_root h) = inl h
  split k (too_high h) = inr (omega arith)
  split k (no_table h) = inr (omega arith)

  -- two answers to one call are the same, and so are the stores
  pub one_clear : (a a' : Result ℕ Refusal) (t t' : Store) → Clear s root va a t → Clear s root va a' t' → (a ≡ a') × (t ≡ t')
  one_clear = one_outcome R (ClearDone s root va) (λ v v' t t' x y. (x.0 ∙ sym y.0, x.1 ∙ sym y.1)) s

  pub by_root : (k : Refusal) → Smallest (RootReason s root) (number_of k) → Clear s root va (Err k) s
  by_root n m = (root_first s root (λ k. at_root) split (number_of n) m, refl)

  module _ (r : RootReady s root) where
    least : (n : ℕ) → (6 < n → va < 2 ^ 38) → (11 < n → Table) → (k : ℕ) → k < n → R k → ⊥
    least n v t k l (at_root h) = root_clear s root r k h
    least n v t k l (too_high h) = omega (arith, v l)
    least n v t k l (no_table h) = omega (arith, t l)

    pub no_6 : 2 ^ 38 ≤ va → Clear s root va (Err TooHigh) s
    no_6 h = (record { applies = too_high h; least = least 6 (λ l. absurd (omega arith)) (λ l. absurd (omega arith)) }, refl)

    -- m is the page's slot
    module _ (v : va < 2 ^ 38) (m : ℕ) (em : m ≡ slot (slot_word s.words) root 2 (va / 4096)) where
      pub no_11 : m < 2 → Clear s root va (Err NotMapped) s
      no_11 h =
          let t : entry_at s root 1 (va / 4096 / 512) ≡ 0 =
          by_cases (dec_lt 0 (entry_at s root 1 (va / 4096 / 512))) (λ q. absurd (omega (arith, page_slot s (tree_of s r.sized r.formed) root (va / 4096) r.is_root (omega arith) q))) (λ q. omega arith) in
          (record { applies = no_table t; least = least 11 (λ l. v) (λ l. absurd (omega arith)) }, refl)

      pub done : 2 ≤ m → (e f : ℕ) (ws : List ℕ) → e ≡ slot_word s.words m → f ≡ with_bit bit_u 0 e → ws ≡ put_slot s.words m f
          → Clear s root va (Ok 0) (record { words = ws; tmarks = s.tmarks; bytes = s.bytes; fmarks = s.fmarks })
      unfolding entry_at
      done h e f ws ee ef ew =
          let t = carried (tree_of s r.sized r.formed) root 1 (va / 4096) (omega (arith, em)) in
          let word : e ≡ resolve s root (va / 4096) = ee ∙ ap (slot_word s.words) em in (
            λ k. least (suc k) (λ l. v) (λ l. t) k (le_refl (suc k)),
            (refl, (λ i. record { words = ew i; tmarks = s.tmarks; bytes = s.bytes; fmarks = s.fmarks }) ∙ ap (stored s m) (ef ∙ ap (with_bit bit_u 0) word) ∙ ap (λ (x : ℕ). stored s x (with_bit bit_u 0 (resolve s root (va / 4096)))) em),
          )
