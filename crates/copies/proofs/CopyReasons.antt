-- Why bytes may not be copied, in order: from a root, the size of an address, and the counts of the pages needed. Assumes nothing.
use mathlib.Core.Path.{◌≡◌, refl, sym, ap, ◌∙◌}
use mathlib.Core.Logic.{◌⊎◌, inl, inr, by_cases}
use Prim.Native.Nat.{ℕ, suc, ◌+◌, ◌-◌, ◌*◌, ◌/◌, ◌^◌, ◌≤◌, ◌<◌}
use native.Mathlib.Decide.{dec_lt}
use native.Mathlib.Omega.{arith}
use lib.Bits.{bit_and}
use Rattle.address.specs.Field.{bit}
use Rattle.page_table_entry.specs.Layout.{bit_u}
use Rattle.store.specs.Store.{Store}
use Rattle.store.specs.Walk.{resolve}
use Rattle.store.specs.Outcome.{NoReason, Smallest}
use Rattle.store.proofs.Outcomes.{first_found}
use Rattle.well_formed.specs.Root.{RootReason, RootReady}
use Rattle.well_formed.proofs.RootReasons.{root_upto, root_clear}
use Rattle.walk.specs.Mapped.{Mapped}
use Rattle.walk.specs.Missing.{entry_in}
use Rattle.walk.specs.Ranges.{PagesAlike}
use Rattle.walk.proofs.Counts.{one_lacks, all_have}
use Rattle.walk.proofs.Pages.{counted_mapped, mapped_counted}
use Rattle.unmap.proofs.PoolLaws.{pool_counted, counted_pool}
use Rattle.copies.specs.Needed.{Needs, PageReason, too_high, unmapped, no_user, foreign, CopyReason, at_root, page, CopyReady}
use Rattle.copies.proofs.PageReasons.{counted_user, user_counted, page_range, page_clear, page_where}

module _ (s : Store) (root va n : ℕ) where
  abbrev R : ℕ → Type 0
  R = CopyReason s root va n

  abbrev F : Type 0
  F = CopyReady s root va n

  abbrev OfPage : ℕ → Type 0
  OfPage k = (i : ℕ) × Needs n i × PageReason s root (va + i) k

  split : (k : ℕ) → R k → RootReason s root k ⊎ OfPage k
  split k (at_root h) = inl h
  split k (page i x h) = inr (i, x, h)

  -- where the bytes can be copied no reason applies
  pub copy_clear : F → NoReason R
  copy_clear f k (at_root h) = root_clear s root f.at_root k h
  copy_clear f k (page i x h) = page_clear (f.pages i x) k h

  -- and where none applies they can be copied
  pub copy_where : RootReady s root → NoReason R → F
  copy_where f clear = record { at_root = f; pages = λ i x. page_where s root (va + i) (λ k h. clear k (page i x h)) }

  pub by_root : (m : ℕ) → Smallest (RootReason s root) m → Smallest R m
  by_root = first_found split (λ k. at_root) (λ j k a b. omega (arith, root_upto a, page_range b.2))

  module _ (f : RootReady s root) where
    abbrev Low : Type 0
    Low = (i : ℕ) → Needs n i → va + i < 2 ^ 38

    abbrev AllMapped : Type 0
    AllMapped = (i : ℕ) → Needs n i → Mapped s root ((va + i) / 4096)

    abbrev AllUser : Type 0
    AllUser = (i : ℕ) → Needs n i → bit bit_u (resolve s root ((va + i) / 4096)) ≡ 1

    least : (m : ℕ) → (6 < m → Low) → (11 < m → AllMapped) → (12 < m → AllUser) → m ≤ 15 → (k : ℕ) → k < m → R k → ⊥
    least m b v u g k l (at_root h) = root_clear s root f k h
    least m b v u g k l (page i x (too_high h)) = omega (arith, b l i x)
    least m b v u g k l (page i x (unmapped h)) = h (v l i x)
    least m b v u g k l (page i x (no_user h)) = h (u l i x)
    least m b v u g k l (page i x (foreign h)) = omega arith

    -- a byte needed lies too high
    high : (i : ℕ) → Needs n i → 2 ^ 38 ≤ va + i → Smallest R 6
    high i x h =
        record { applies = page i x (too_high h); least = least 6 (λ q. absurd (omega arith)) (λ q. absurd (omega arith)) (λ q. absurd (omega arith)) (omega arith) }

    pub no_6 : 2 ^ 38 ≤ va → Smallest R 6
    no_6 h = high 0 (inr refl) (omega arith)

    module _ (b : va < 2 ^ 38) where
      pub no_6_end : 2 ^ 38 - va < n → Smallest R 6
      no_6_end h = high (2 ^ 38 - va) (inl h) (omega arith)

      -- the pages needed are those from the first up to e
      module _ (l : n ≤ 2 ^ 38 - va) (e : ℕ) (ee : e ≡ suc ((va + (n - 1)) / 4096)) where
        low : Low
        low i (inl x) = omega arith
        low i (inr x) = omega arith

        pages : (va / 4096 ≤ e) × (e ≤ 2 ^ 26)
        pages = by_cases (dec_lt 0 n) (λ h. (omega arith, omega arith)) (λ h. (omega arith, omega arith))

        page_of_lem : (i : ℕ) → Needs n i → (va / 4096 ≤ (va + i) / 4096) × ((va + i) / 4096 < e)
        page_of_lem i (inl x) = (omega arith, omega arith)
        page_of_lem i (inr x) = (omega arith, omega arith)

        byte_of : (p : ℕ) → va / 4096 ≤ p → p < e → (i : ℕ) × Needs n i × ((va + i) / 4096 ≡ p)
        byte_of p h k =
            by_cases (dec_lt va (4096 * p))
            (λ q.
            let x : va + (4096 * p - va) ≡ 4096 * p = omega arith in
            (4096 * p - va, inl (omega arith), omega (arith, x)))
            (λ q. (0, inr refl, omega arith))

        abbrev g : ℕ → ℕ
        g = entry_in s.words root 2

        -- a count of these pages by bits
        module _ (mask v c : ℕ) (count : PagesAlike s.words root (va / 4096) e mask v c) where
          lacking : c < e - va / 4096 → (i : ℕ) × Needs n i × (bit_and (g ((va + i) / 4096)) mask ≡ v → ⊥)
          lacking h =
              let q = one_lacks g mask v (va / 4096) e c pages.0 count h in
              let x = byte_of q.0 q.1 q.2 in
              (x.0, x.1, λ y. q.3 (ap (λ (p : ℕ). bit_and (g p) mask) (sym x.2) ∙ y))

          having : e - va / 4096 ≤ c → (i : ℕ) → Needs n i → bit_and (g ((va + i) / 4096)) mask ≡ v
          having h i x = let q = page_of_lem i x in all_have g mask v (va / 4096) e c pages.0 count h ((va + i) / 4096) q.0 q.1

        module _ (c : ℕ) (valids : PagesAlike s.words root (va / 4096) e 1 1 c) where
          pub no_11 : c < e - va / 4096 → Smallest R 11
          no_11 h =
              let q = lacking 1 1 c valids h in
              let a : PageReason s root (va + q.0) 11 = unmapped (λ y. q.2 (mapped_counted s root ((va + q.0) / 4096) y)) in
              record { applies = page q.0 q.1 a; least = least 11 (λ _. low) (λ q. absurd (omega arith)) (λ q. absurd (omega arith)) (omega arith) }

          module _ (vs : e - va / 4096 ≤ c) (d : ℕ) (users : PagesAlike s.words root (va / 4096) e 16 16 d) where
            mapped : AllMapped
            mapped i x = counted_mapped s root ((va + i) / 4096) (having 1 1 c valids vs i x)

            pub no_12 : d < e - va / 4096 → Smallest R 12
            no_12 h =
                let q = lacking 16 16 d users h in
                let a : PageReason s root (va + q.0) 12 = no_user (λ y. q.2 (user_counted s root ((va + q.0) / 4096) y)) in
                record { applies = page q.0 q.1 a; least = least 12 (λ _. low) (λ _. mapped) (λ q. absurd (omega arith)) (omega arith) }

            module _ (us : e - va / 4096 ≤ d) (j : ℕ) (pools : PagesAlike s.words root (va / 4096) e 0xFFFF_FFFF_F800_0000 0x4000_0000 j) where
              user : AllUser
              user i x = counted_user s root ((va + i) / 4096) (having 16 16 d users us i x)

              pub no_15 : j < e - va / 4096 → Smallest R 15
              no_15 h =
                  let q = lacking 0xFFFF_FFFF_F800_0000 0x4000_0000 j pools h in
                  let a : PageReason s root (va + q.0) 15 = foreign (λ y. q.2 (pool_counted s f.sized root ((va + q.0) / 4096) y)) in
                  record { applies = page q.0 q.1 a; least = least 15 (λ _. low) (λ _. mapped) (λ _. user) (omega arith) }

              pub all_ready : e - va / 4096 ≤ j → F
              all_ready ps =
                  record {
                    at_root = f;
                    pages = λ i x. record {
                      below = low i x;
                      mapped = mapped i x;
                      user = user i x;
                      pool =
                          let w : (va + i) / 4096 < 2 ^ 26 = omega (arith, low i x) in
                          counted_pool s f.sized root ((va + i) / 4096) f.formed f.is_root w (having 0xFFFF_FFFF_F800_0000 0x4000_0000 j pools ps i x);
                    };
                  }
