-- Why pages may not leave, from the counts of a judge. Assumes nothing.
use mathlib.Core.Path.{◌≡◌, subst}
use mathlib.Core.Bool.{Bool, false, not}
use mathlib.Core.Logic.{by_cases}
use Prim.Native.Nat.{ℕ, ◌+◌, ◌-◌, ◌^◌, ◌≤◌, ◌<◌}
use native.Mathlib.Decide.{ℕ_discrete}
use native.Mathlib.Omega.{arith}
use lib.Dec.{eqb}
use borrow.Author.Tests.{eq-eqb, ne_eqb}
use Rattle.page_table_entry.specs.Layout.{flags}
use Rattle.store.specs.Store.{Store}
use Rattle.store.specs.Walk.{resolve}
use Rattle.store.specs.Says.{Says}
use Rattle.store.specs.Outcome.{Smallest}
use Rattle.walk.specs.Mapped.{Mapped}
use Rattle.walk.specs.Missing.{entry_in}
use Rattle.walk.specs.Ranges.{PagesAlike}
use Rattle.walk.proofs.Counts.{one_has, one_lacks, none_has, all_have}
use Rattle.walk.proofs.Pages.{counted_mapped, mapped_counted}
use Rattle.well_formed.specs.Root.{RootReady}
use Rattle.unmap.specs.Leave.{PoolFrame, MeetsPool, LeaveReason, pooled, unmapped, bare, LeaveReady}
use Rattle.unmap.proofs.PoolLaws.{pool_counted, counted_pool, counted_bare, bare_counted}

module _ (s : Store) (r p e : ℕ) (ready : RootReady s r) (l : p ≤ e) (within : e ≤ 2 ^ 26) (freeing : Bool) where
  abbrev R : ℕ → Type 0
  R = LeaveReason s r p (e - p) freeing

  abbrev F : Type 0
  F = LeaveReady s r p (e - p) freeing

  abbrev g : ℕ → ℕ
  g = entry_in s.words r 2

  -- page k of the range, by how far it lies after p
  after : (P : ℕ → Type 0) (k : ℕ) → p ≤ k → k < e → P k → (i : ℕ) × (i < e - p) × P (p + i)
  after P k x y h = let q : k ≡ p + (k - p) = omega arith in (k - p, omega arith, subst P q h)

  -- ---- pool frames

  module _ (c : ℕ) (count : PagesAlike s.words r p e 0xFFFF_FFFF_F800_0000 0x4000_0000 c) where
    pool_met : freeing ≡ false → (c ≡ 0 → ⊥) → MeetsPool s r p (e - p) freeing
    pool_met f n =
        let q = one_has g 0xFFFF_FFFF_F800_0000 0x4000_0000 p e c l count (omega arith) in
        let x = after (λ (k : ℕ). PoolFrame s (resolve s r k)) q.0 q.1 q.2
        (counted_pool s ready.sized r q.0 ready.formed ready.is_root (omega (arith, within, q.2)) q.3) in
        (f, x.0, x.1, x.2)

    pool_not_met : c ≡ 0 → MeetsPool s r p (e - p) freeing → ⊥
    pool_not_met z (f, i, b, h) =
        none_has g 0xFFFF_FFFF_F800_0000 0x4000_0000 p e c l count z (p + i) (omega arith) (omega arith) (pool_counted s ready.sized r (p + i) h)

    pub pool_said : freeing ≡ false → Says (not (eqb c 0)) (MeetsPool s r p (e - p) freeing)
    pool_said f = by_cases (ℕ_discrete c 0) (λ z. rw (eq-eqb c 0 z) (pool_not_met z)) (λ n. rw (ne_eqb c 0 n) (pool_met f n))

  -- ---- the reasons in order

  least : (n : ℕ) → (10 < n → MeetsPool s r p (e - p) freeing → ⊥) → (11 < n → (i : ℕ) → i < e - p → Mapped s r (p + i))
      → (13 < n → (i : ℕ) → i < e - p → flags (resolve s r (p + i)) ≡ 1 → ⊥) → (k : ℕ) → k < n → R k → ⊥
  least n f m b k q (pooled h) = f q h
  least n f m b k q (unmapped i x h) = h (m q i x)
  least n f m b k q (bare i x h) = b q i x h

  pub no_10 : MeetsPool s r p (e - p) freeing → Smallest R 10
  no_10 h = record { applies = pooled h; least = least 10 (λ q. absurd (omega arith)) (λ q. absurd (omega arith)) (λ q. absurd (omega arith)) }

  module _ (f : MeetsPool s r p (e - p) freeing → ⊥) (c : ℕ) (count : PagesAlike s.words r p e 1 1 c) where
    pub no_11 : c < e - p → Smallest R 11
    no_11 h =
        let q = one_lacks g 1 1 p e c l count h in
        let x = after (λ (k : ℕ). Mapped s r k → ⊥) q.0 q.1 q.2 (λ m. q.3 (mapped_counted s r q.0 m)) in
        record { applies = unmapped x.0 x.1 x.2; least = least 11 (λ _. f) (λ q. absurd (omega arith)) (λ q. absurd (omega arith)) }

    module _ (h : e - p ≤ c) (d : ℕ) (bares : PagesAlike s.words r p e 1023 1 d) where
      mapped : (i : ℕ) → i < e - p → Mapped s r (p + i)
      mapped i x = counted_mapped s r (p + i) (all_have g 1 1 p e c l count h (p + i) (omega arith) (omega arith))

      pub no_13 : (d ≡ 0 → ⊥) → Smallest R 13
      no_13 n =
          let q = one_has g 1023 1 p e d l bares (omega arith) in
          let x = after (λ (k : ℕ). flags (resolve s r k) ≡ 1) q.0 q.1 q.2 (counted_bare s ready.sized r q.0 q.3) in
          record { applies = bare x.0 x.1 x.2; least = least 13 (λ _. f) (λ _. mapped) (λ q. absurd (omega arith)) }

      pub all_ready : d ≡ 0 → F
      all_ready z =
          record { foreign = f; mapped = mapped; full = λ i x b. none_has g 1023 1 p e d l bares z (p + i) (omega arith) (omega arith) (bare_counted s ready.sized r (p + i) b) }
