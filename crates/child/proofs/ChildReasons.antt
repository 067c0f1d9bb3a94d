-- The reasons of `uvm_copy` in order, and what each way out of its judge says. Assumes nothing.
use mathlib.Core.Path.{◌≡◌, refl}
use mathlib.Core.Logic.{◌⊎◌, inl, inr, ⊎_elim}
use Prim.Native.Nat.{ℕ, ◌/◌, ◌%◌, ◌^◌, ◌≤◌, ◌<◌}
use native.Mathlib.Omega.{arith}
use Rattle.store.specs.Store.{Store, mark}
use Rattle.std.specs.Prelude.{Result, Ok, Err}
use Rattle.refusal.specs.declared.Refusal.{Refusal}
use Rattle.refusal.specs.Number.{number_of}
use Rattle.store.specs.Outcome.{NoReason, Smallest, Judges}
use Rattle.store.proofs.Outcomes.{then_found, JustThen, just_from, just_found, then_other}
use Rattle.well_formed.specs.Root.{RootReason, sizes, unformed, no_root, RootReady}
use Rattle.well_formed.proofs.RootReasons.{root_upto, root_clear}
use Rattle.fresh.specs.Fresh.{FreshReason, taken, no_frames, no_tables}
use Rattle.fresh.proofs.FreshReasons.{fresh_clear}
use Rattle.child.specs.Child.{ChildReason, at_parent, at_child, same, too_large, unaligned, unmapped, foreign, fresh, ChildReady}
use Rattle.child.proofs.ChildPages.{PageReason, page_from, PagesReady}

module _ (s : Store) (parent child size : ℕ) where
  abbrev R : ℕ → Type 0
  R = ChildReason s parent child size

  abbrev F : Type 0
  F = ChildReady s parent child size

  abbrev Pages : ℕ → Type 0
  Pages = PageReason s parent child (size / 4096)

  -- the reasons from each number on
  abbrev From7 : ℕ → Type 0
  From7 = JustThen 7 (size % 4096 ≡ 0 → ⊥) Pages

  abbrev From6 : ℕ → Type 0
  From6 = JustThen 6 (2 ^ 38 < size) From7

  abbrev From4 : ℕ → Type 0
  From4 = JustThen 4 (child ≡ parent) From6

  abbrev From3 : ℕ → Type 0
  From3 = JustThen 3 (mark s.tmarks child ≡ 1 → ⊥) From4

  above7 : (k : ℕ) → Pages k → 7 < k
  above7 k h = omega (arith, page_from s parent child (size / 4096) k h)

  above6 : (k : ℕ) → From7 k → 6 < k
  above6 k h = omega (arith, just_from 7 (size % 4096 ≡ 0 → ⊥) above7 k h)

  above4 : (k : ℕ) → From6 k → 4 < k
  above4 k h = omega (arith, just_from 6 (2 ^ 38 < size) above6 k h)

  above3 : (k : ℕ) → From4 k → 3 < k
  above3 k h = omega (arith, just_from 4 (child ≡ parent) above4 k h)

  -- ---- each reason is one of these

  at_pages : (k : ℕ) → Pages k → RootReason s parent k ⊎ From3 k
  at_pages k h = inr (inr (inr (inr (inr h))))

  split_fresh : (k : ℕ) → FreshReason s child 0 (size / 4096) k → Pages k
  split_fresh k (taken i l h) = inr (inl (refl, (i, l, h)))
  split_fresh k (no_frames h) = inr (inr (inr (no_frames h, omega arith)))
  split_fresh k (no_tables h) = inr (inr (inr (no_tables h, omega arith)))

  split_child : (k : ℕ) → RootReason s child k → RootReason s parent k ⊎ From3 k
  split_child k (sizes h) = inl (sizes h)
  split_child k (unformed h) = inl (unformed h)
  split_child k (no_root h) = inr (inl (refl, h))

  split : (k : ℕ) → R k → RootReason s parent k ⊎ From3 k
  split k (at_parent h) = inl h
  split k (at_child h) = split_child k h
  split k (same h) = inr (inr (inl (refl, h)))
  split k (too_large h) = inr (inr (inr (inl (refl, h))))
  split k (unaligned h) = inr (inr (inr (inr (inl (refl, h)))))
  split k (unmapped p l h) = at_pages k (inl (refl, (p, l, h)))
  split k (foreign p l h) = at_pages k (inr (inr (inl (refl, (p, l, h)))))
  split k (fresh h) = at_pages k (split_fresh k h)

  -- ---- and each of these is a reason

  join_pages : (k : ℕ) → Pages k → R k
  join_pages k (inl (e, (p, l, h))) = rw e (unmapped p l h)
  join_pages k (inr (inl (e, (i, l, h)))) = rw e (fresh (taken i l h))
  join_pages k (inr (inr (inl (e, (p, l, h))))) = rw e (foreign p l h)
  join_pages k (inr (inr (inr (h, l)))) = fresh h

  join : (k : ℕ) → From3 k → R k
  join k (inl (e, h)) = rw e (at_child (no_root h))
  join k (inr (inl (e, h))) = rw e (same h)
  join k (inr (inr (inl (e, h)))) = rw e (too_large h)
  join k (inr (inr (inr (inl (e, h))))) = rw e (unaligned h)
  join k (inr (inr (inr (inr h)))) = join_pages k h

  -- ---- the tests in a row

  pub by_parent : (n : ℕ) → Smallest (RootReason s parent) n → Smallest R n
  by_parent n m = record {
    applies = at_parent m.applies;
    least = λ k l x. ⊎_elim (m.least k l) (λ b. omega (arith, root_upto m.applies, just_from 3 (mark s.tmarks child ≡ 1 → ⊥) above3 k b)) (split k x);
  }

  module _ (r : RootReady s parent) where
    to3 : (n : ℕ) → Smallest From3 n → Smallest R n
    to3 = then_found split join (root_clear s parent r)

    pub no_3 : (mark s.tmarks child ≡ 1 → ⊥) → Smallest R 3
    no_3 h = to3 3 (just_found 3 (mark s.tmarks child ≡ 1 → ⊥) above3 h)

    module _ (c : mark s.tmarks child ≡ 1) where
      to4 : (n : ℕ) → Smallest From4 n → Smallest R n
      to4 n q = to3 n (then_other 3 (mark s.tmarks child ≡ 1 → ⊥) (λ h. h c) n q)

      pub no_4 : child ≡ parent → Smallest R 4
      no_4 h = to4 4 (just_found 4 (child ≡ parent) above4 h)

      module _ (a : child ≡ parent → ⊥) where
        to6 : (n : ℕ) → Smallest From6 n → Smallest R n
        to6 n q = to4 n (then_other 4 (child ≡ parent) a n q)

        pub no_6 : 2 ^ 38 < size → Smallest R 6
        no_6 h = to6 6 (just_found 6 (2 ^ 38 < size) above6 h)

        module _ (z : size ≤ 2 ^ 38) where
          to7 : (n : ℕ) → Smallest From7 n → Smallest R n
          to7 n q = to6 n (then_other 6 (2 ^ 38 < size) (λ h. omega arith) n q)

          pub no_7 : (size % 4096 ≡ 0 → ⊥) → Smallest R 7
          no_7 h = to7 7 (just_found 7 (size % 4096 ≡ 0 → ⊥) above7 h)

          at_child₀ : RootReady s child
          at_child₀ = record { sized = r.sized; formed = r.formed; is_root = c }

          module _ (y : size % 4096 ≡ 0) where
            pub at_page : (n : ℕ) → Smallest Pages n → Smallest R n
            at_page n q = to7 n (then_other 7 (size % 4096 ≡ 0 → ⊥) (λ h. h y) n q)

            pub by_pages : (j : Result Unit Refusal) → Judges Pages (PagesReady s parent child (size / 4096)) j → Judges R F j
            by_pages (Ok u) g =
                record { at_parent = r; at_child = at_child₀; apart = a; small = z; aligned = y; mapped = g.0; pool = g.1; fresh = g.2 }
            by_pages (Err k) q = at_page (number_of k) q

  -- where the call is ready no reason applies
  pub clear : F → NoReason R
  clear f k (at_parent h) = root_clear s parent f.at_parent k h
  clear f k (at_child h) = root_clear s child f.at_child k h
  clear f k (same h) = f.apart h
  clear f k (too_large h) = omega (arith, f.small)
  clear f k (unaligned h) = h f.aligned
  clear f k (unmapped p l h) = h (f.mapped p l)
  clear f k (foreign p l h) = h (f.pool p l)
  clear f k (fresh h) = fresh_clear f.fresh k h
