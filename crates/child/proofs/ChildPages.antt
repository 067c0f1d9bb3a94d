-- The reasons of `uvm_copy` that speak of pages, in order, and what each count of its judge says. Assumes nothing.
use mathlib.Core.Path.{◌≡◌, sym, subst}
use Prim.Native.Nat.{ℕ, ◌+◌, ◌-◌, ◌^◌, ◌≤◌, ◌<◌}
use native.Mathlib.Nat.{zero-add}
use native.Mathlib.Omega.{arith}
use Rattle.store.specs.Store.{Store}
use Rattle.store.specs.Walk.{resolve}
use Rattle.std.specs.Prelude.{Result, Ok, Err}
use Rattle.refusal.specs.declared.Refusal.{Refusal}
use Rattle.refusal.specs.Number.{number_of}
use Rattle.store.specs.Outcome.{Smallest, Judges}
use Rattle.store.proofs.Outcomes.{JustThen, just_from, just_found, then_other}
use Rattle.well_formed.specs.Root.{RootReady}
use Rattle.walk.specs.Mapped.{Mapped}
use Rattle.walk.specs.Missing.{entry_in}
use Rattle.walk.specs.Ranges.{PagesAlike}
use Rattle.walk.proofs.Counts.{one_has, one_lacks, none_has, all_have}
use Rattle.walk.proofs.Pages.{counted_mapped, mapped_counted}
use Rattle.unmap.specs.Leave.{PoolFrame}
use Rattle.unmap.proofs.PoolLaws.{pool_counted, counted_pool}
use Rattle.fresh.specs.Fresh.{FreshReason, taken, no_frames, no_tables, FreshReady}

module _ (s : Store) (parent child n : ℕ) where
  -- 11 and 15 of the parent, and 14 of the child
  abbrev Unmapped : Type 0
  Unmapped = (p : ℕ) × (p < n) × (Mapped s parent p → ⊥)

  abbrev Taken : Type 0
  Taken = (i : ℕ) × (i < n) × Mapped s child (0 + i)

  abbrev Foreign : Type 0
  Foreign = (p : ℕ) × (p < n) × (PoolFrame s (resolve s parent p) → ⊥)

  -- the reasons from each number on
  abbrev From16 : ℕ → Type 0
  From16 k = FreshReason s child 0 n k × (15 < k)

  abbrev From15 : ℕ → Type 0
  From15 = JustThen 15 Foreign From16

  abbrev From14 : ℕ → Type 0
  From14 = JustThen 14 Taken From15

  abbrev pub PageReason : ℕ → Type 0
  PageReason = JustThen 11 Unmapped From14

  above15 : (k : ℕ) → From16 k → 15 < k
  above15 k h = h.1

  above14 : (k : ℕ) → From15 k → 14 < k
  above14 k h = omega (arith, just_from 15 Foreign above15 k h)

  above11 : (k : ℕ) → From14 k → 11 < k
  above11 k h = omega (arith, just_from 14 Taken above14 k h)

  pub page_from : (k : ℕ) → PageReason k → 11 ≤ k
  page_from = just_from 11 Unmapped above11

  -- what holds where none of them applies
  abbrev pub PagesReady : Type 0
  PagesReady = ((p : ℕ) → p < n → Mapped s parent p) × ((p : ℕ) → p < n → PoolFrame s (resolve s parent p)) × FreshReady s child 0 n

  -- ---- the counts in a row

  module _ (r : RootReady s parent) (b : n ≤ 2 ^ 26) (m : ℕ) (count : PagesAlike s.words parent 0 n 1 1 m) where
    pub no_11 : m < n → Smallest PageReason 11
    no_11 h =
        let q = one_lacks (entry_in s.words parent 2) 1 1 0 n m (omega arith) count (omega arith) in
        just_found 11 Unmapped above11 (q.0, q.2, λ x. q.3 (mapped_counted s parent q.0 x))

    module _ (all : n ≤ m) where
      mapped : (p : ℕ) → p < n → Mapped s parent p
      mapped p l = counted_mapped s parent p (all_have (entry_in s.words parent 2) 1 1 0 n m (omega arith) count (omega arith) p (omega arith) l)

      to14 : (k : ℕ) → Smallest From14 k → Smallest PageReason k
      to14 = then_other 11 Unmapped (λ (p, l, h). h (mapped p l))

      module _ (t : ℕ) (met : PagesAlike s.words child 0 n 1 1 t) where
        pub no_14 : (t ≡ 0 → ⊥) → Smallest PageReason 14
        no_14 h =
            let q = one_has (entry_in s.words child 2) 1 1 0 n t (omega arith) met (omega arith) in
            to14 14 (just_found 14 Taken above14 (q.0, q.2, subst (Mapped s child) (sym (zero-add q.0)) (counted_mapped s child q.0 q.3)))

        module _ (none : t ≡ 0) where
          free : (i : ℕ) → i < n → Mapped s child (0 + i) → ⊥
          free i l h = none_has (entry_in s.words child 2) 1 1 0 n t (omega arith) met none (0 + i) (omega arith) (omega arith) (mapped_counted s child (0 + i) h)

          to15 : (k : ℕ) → Smallest From15 k → Smallest PageReason k
          to15 k q = to14 k (then_other 14 Taken (λ (i, l, h). free i l h) k q)

          module _ (j : ℕ) (pools : PagesAlike s.words parent 0 n 0xFFFF_FFFF_F800_0000 0x4000_0000 j) where
            pub no_15 : j < n → Smallest PageReason 15
            no_15 h =
                let q = one_lacks (entry_in s.words parent 2) 0xFFFF_FFFF_F800_0000 0x4000_0000 0 n j (omega arith) pools (omega arith) in
                to15 15 (just_found 15 Foreign above15 (q.0, q.2, λ x. q.3 (pool_counted s r.sized parent q.0 x)))

            module _ (held : n ≤ j) where
              pool : (p : ℕ) → p < n → PoolFrame s (resolve s parent p)
              pool p l =
                  counted_pool s r.sized parent p r.formed r.is_root (omega arith)
                  (all_have (entry_in s.words parent 2) 0xFFFF_FFFF_F800_0000 0x4000_0000 0 n j (omega arith) pools (omega arith) p (omega arith) l)

              -- the judge of fresh pages does not answer 14 any more
              later : (k : ℕ) → FreshReason s child 0 n k → From16 k
              later k (taken i l h) = absurd (free i l h)
              later k (no_frames h) = (no_frames h, omega arith)
              later k (no_tables h) = (no_tables h, omega arith)

              pub by_fresh : (j : Result Unit Refusal) → Judges (FreshReason s child 0 (n - 0)) (FreshReady s child 0 (n - 0)) j → Judges PageReason PagesReady j
              by_fresh (Ok u) f = let e : n - 0 ≡ n = omega arith in (mapped, pool, subst (FreshReady s child 0) e f)
              by_fresh (Err k) q =
                  let m = number_of k in
                  let e : n - 0 ≡ n = omega arith in
                  let first : Smallest (FreshReason s child 0 n) m = subst (λ (x : ℕ). Smallest (FreshReason s child 0 x) m) e q in
                  to15 m (then_other 15 Foreign (λ (p, l, h). h (pool p l)) m (record { applies = later m first.applies; least = λ i l x. first.least i l x.0 }))
