-- `pgt_translate`: its reasons in order, that it answers in one way, and that it answers where the machine translates. Assumes nothing.
use mathlib.Core.Path.{◌≡◌, refl, sym, ap, ◌∙◌}
use mathlib.Core.Logic.{◌⊎◌, inl, inr, ⊎_elim, ◌↔◌}
use mathlib.Core.Bool.{true, false}
use Prim.Native.Nat.{ℕ, suc, ◌+◌, ◌/◌, ◌%◌, ◌^◌, ◌≤◌, ◌<◌}
use native.Mathlib.Nat.{le_refl}
use native.Mathlib.Omega.{arith}
use borrow.Author.Tests.{eqb-true, eqb-false}
use Rattle.std.specs.Prelude.{Result, Ok}
use Rattle.refusal.specs.declared.Refusal.{Refusal}
use Rattle.address.specs.Field.{bit}
use Rattle.page_table_entry.specs.Layout.{bit_v, bit_u, has, frame_of}
use Rattle.store.specs.Store.{Store, Sized, mark}
use Rattle.store.specs.WellFormed.{WellFormed}
use Rattle.store.specs.Walk.{slot_word, slot, entry_at, resolve}
use Rattle.store.specs.Outcome.{Smallest, NoReason}
use Rattle.store.proofs.Outcomes.{one_outcome}
use Rattle.well_formed.specs.Root.{RootReason, RootReady}
use Rattle.well_formed.proofs.RootReasons.{root_clear, root_first}
use Rattle.walk.specs.Mapped.{Mapped}
use Rattle.translate.specs.Translate.{TranslateReason, at_root, too_high, unmapped, no_user, TranslateDone, Translate}
use Rattle.translate.specs.Sv39.{Kind, at, translate, memory, satp_of, usable}
use Rattle.translate.proofs.Judged.{parity}
use Rattle.translate.proofs.Sv39.{reached, answers_exactly}

module _ (s : Store) (root va : ℕ) where
  abbrev R : ℕ → Type 0
  R = TranslateReason s root va

  abbrev Page : Type 0
  Page = Mapped s root (va / 4096)

  abbrev User : Type 0
  User = bit bit_u (resolve s root (va / 4096)) ≡ 1

  split : (k : ℕ) → R k → RootReason s root k ⊎ (3 < k)
  split k (at_root h) = inl h
  split k (too_high h) = inr (omega arith)
  split k (unmapped h) = inr (omega arith)
  split k (no_user h) = inr (omega arith)

  pub by_root : (n : ℕ) → Smallest (RootReason s root) n → Smallest R n
  by_root = root_first s root (λ k. at_root) split

  module _ (r : RootReady s root) where
    -- no reason below n applies, where what each of them denies holds
    least : (n : ℕ) → (6 < n → va < 2 ^ 38) → (11 < n → Page) → (12 < n → User) → (k : ℕ) → k < n → R k → ⊥
    least n v p u k l (at_root h) = root_clear s root r k h
    least n v p u k l (too_high h) = omega (arith, v l)
    least n v p u k l (unmapped h) = h (p l)
    least n v p u k l (no_user h) = h (u l)

    pub no_6 : 2 ^ 38 ≤ va → Smallest R 6
    no_6 h = record { applies = too_high h; least = least 6 (λ l. absurd (omega arith)) (λ l. absurd (omega arith)) (λ l. absurd (omega arith)) }

    pub clear : va < 2 ^ 38 → Page → User → NoReason R
    clear v p u k = least (suc k) (λ l. v) (λ l. p) (λ l. u) k (le_refl (suc k))

    -- the word e that was read for the page
    module _ (v : va < 2 ^ 38) (m e : ℕ) (em : m ≡ slot (slot_word s.words) root 2 (va / 4096)) (ee : e ≡ slot_word s.words m) where
      is : e ≡ resolve s root (va / 4096)
      unfolding entry_at
      is = ee ∙ ap (slot_word s.words) em

      set : (k : ℕ) → true ≡ has k e → bit k (resolve s root (va / 4096)) ≡ 1
      set k h = ap (bit k) (sym is) ∙ eqb-true (bit k e) 1 (sym h)

      unset : (k : ℕ) → false ≡ has k e → bit k (resolve s root (va / 4096)) ≡ 1 → ⊥
      unset k h q = eqb-false (bit k e) 1 (sym h) (ap (bit k) is ∙ q)

      pub no_11 : false ≡ has bit_v e → Smallest R 11
      no_11 h = record { applies = unmapped (unset bit_v h); least = least 11 (λ l. v) (λ l. absurd (omega arith)) (λ l. absurd (omega arith)) }

      module _ (p : true ≡ has bit_v e) where
        pub no_12 : false ≡ has bit_u e → Smallest R 12
        no_12 h = record { applies = no_user (unset bit_u h); least = least 12 (λ l. v) (λ l. set bit_v p) (λ l. absurd (omega arith)) }

        pub done : true ≡ has bit_u e → (a : ℕ) → a ≡ frame_of e → Translate s root va (Ok a)
        done u a f = (clear v (set bit_v p) (set bit_u u), (f ∙ ap frame_of is, refl))

  -- two answers to one call are the same
  pub one_translate : (a a' : Result ℕ Refusal) → Translate s root va a → Translate s root va a' → a ≡ a'
  one_translate a a' p q =
      (one_outcome R (TranslateDone s root va) (λ v v' t t' x y. (x.0 ∙ sym y.0, x.1 ∙ sym y.1)) s a a' s s p q).0

  -- what the call answers is the frame that the machine goes to: whatever access in user mode it lets through, at that frame's
  -- address and the offset of va
  pub frame_of_machine : (v : ℕ) → Sized s → WellFormed s → mark s.tmarks root ≡ 1 → va < 2 ^ 38 → Translate s root va (Ok v)
      → (other : ℕ → ℕ) (kind : Kind) (pa : ℕ) → translate (memory s other) (satp_of root) va kind ≡ at pa → pa ≡ v + va % 4096
  frame_of_machine v z w r l o other kind pa e = (reached s z w root r other va kind pa l e).1 ∙ omega (arith, o.1.0)

  -- and it answers exactly where the machine lets some access through, but for the words that the machine does not use
  pub answers_where : Sized s → WellFormed s → mark s.tmarks root ≡ 1 → va < 2 ^ 38 → usable (resolve s root (va / 4096)) ≡ true → (other : ℕ → ℕ)
      → ((v : ℕ) × Translate s root va (Ok v)) ↔ ((kind : Kind) × (pa : ℕ) × (translate (memory s other) (satp_of root) va kind ≡ at pa))
  answers_where z w r l u other = (
    λ a. (answers_exactly s z w root r other va l).1 (mapped a.1.0, user a.1.0, u),
    λ m. let x = (answers_exactly s z w root r other va l).0 m in (frame_of (resolve s root (va / 4096)), (clear (record { sized = z; formed = w; is_root = r }) l x.0 x.1, (refl, refl))),
  )
    where
      mapped : NoReason R → Page
      mapped n = ⊎_elim (λ e. absurd (n 11 (unmapped (λ p. omega arith)))) (λ e. e) (parity (resolve s root (va / 4096) / 2 ^ bit_v))

      user : NoReason R → User
      user n = ⊎_elim (λ e. absurd (n 12 (no_user (λ p. omega arith)))) (λ e. e) (parity (resolve s root (va / 4096) / 2 ^ bit_u))
