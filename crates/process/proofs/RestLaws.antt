-- The last parts of a call made of parts: what each way out of their judge says, and what doing them makes of a store. Assumes nothing.
use mathlib.Core.Path.{◌≡◌, refl, sym, ap, ◌∙◌, subst}
use mathlib.Core.Logic.{inl, inr, by_cases}
use mathlib.Core.Bool.{true, true≢false}
use mathlib.Core.List.{List}
use Prim.Native.Nat.{ℕ, zero, suc, ◌-◌, ◌^◌, ◌≤◌, ◌<◌}
use native.Mathlib.Nat.{le_refl, zero-add}
use native.Mathlib.Decide.{dec_lt}
use native.Mathlib.Omega.{arith}
use Rattle.std.specs.Prelude.{Ok, Err}
use Rattle.refusal.specs.declared.Refusal.{Refusal}
use Rattle.refusal.specs.declared.Refusal.TheVariants.{TooHigh, NotMapped, PageLeft}
use Rattle.refusal.specs.Number.{number_of}
use Rattle.address.specs.Field.{bit}
use Rattle.page_table_entry.specs.Layout.{bit_v}
use Rattle.store.specs.Store.{Store, store_of}
use Rattle.store.specs.Walk.{resolve}
use Rattle.store.specs.Outcome.{Smallest}
use Rattle.well_formed.specs.Root.{RootReady}
use Rattle.walk.specs.Mapped.{Mapped}
use Rattle.walk.specs.Missing.{entry_in}
use Rattle.walk.specs.Ranges.{PagesAlike}
use Rattle.walk.proofs.Counts.{one_has, none_has}
use Rattle.walk.proofs.Pages.{counted_mapped, mapped_counted}
use Rattle.unmap.specs.Leave.{LeaveReason, pooled, unmapped, bare, LeaveReady, leave_pages, CanLeave}
use Rattle.unmap.specs.Unmap.{Unmap}
use Rattle.unmap.specs.Gone.{Gone}
use Rattle.unmap.proofs.UnmapReasons.{no_6, by_pages}
use Rattle.unmap.proofs.UnmapLaws.{left_done}
use Rattle.unmap.proofs.LeavePages.{leavable}
use Rattle.unmap.proofs.GoneLaws.{pages_gone}
use Rattle.shrink.specs.Sizes.{pages_to}
use Rattle.release.specs.Free.{Free, FreeReady}
use Rattle.release.specs.FreeTree.{trees, free_tree}
use Rattle.process.specs.Parts.{UvmFree}
use Rattle.process.specs.PartsReady.{RestReady, Cut, JudgesRest}
use Rattle.release.proofs.FreeReasons.{still_mapped}
use Rattle.process.proofs.StillRoot.{still_root}
use Rattle.process.proofs.LeaveSame.{SamePages, ready_same, smallest_same}
use Rattle.release.proofs.FreeLaws.{done}

-- what is left when the pages of size have gone
abbrev pub left : ℕ → ℕ → Store → Store
left root size s = leave_pages s root 0 (pages_to size) true

module _ (root size : ℕ) (s : Store) (c : CanLeave s root 0 (pages_to size) true) where
  have_gone : Gone s root 0 (pages_to size) true (left root size s)
  have_gone = pages_gone (pages_to size) s root 0 true (leavable s root 0 (pages_to size) true c)

  root_stays : RootReady (left root size s) root
  root_stays = still_root s root 0 (pages_to size) true (left root size s) c.asked.at_root.is_root have_gone

  -- the first of the two parts
  first_done : Unmap s root 0 (pages_to size) true (Ok 0) (left root size s)
  first_done = left_done s root 0 (pages_to size) true refl c

-- ---- the answer, from those of the two parts

module _ (root : ℕ) where
  first_refuses : (size : ℕ) (s : Store) (k : Refusal) → (size ≡ 0 → ⊥) → Unmap s root 0 (pages_to size) true (Err k) s → UvmFree root size s (Err k) s
  first_refuses zero s k h u = absurd (h refl)
  first_refuses (suc size) s k h u = (inl u, refl)

  second_refuses : (size : ℕ) (s : Store) (k : Refusal) → CanLeave s root 0 (pages_to size) true → Free (left root size s) root (Err k) (left root size s) → UvmFree root size s (Err k) s
  unfolding leave_pages
  second_refuses zero s k c f = f
  second_refuses (suc size) s k c f = (inr (0, left root (suc size) s, first_done root (suc size) s c, f), refl)

  both_done : (size : ℕ) (s : Store) (v : ℕ) (t : Store) → CanLeave s root 0 (pages_to size) true → Free (left root size s) root (Ok v) t → UvmFree root size s (Ok v) t
  unfolding leave_pages
  both_done zero s v t c f = f
  both_done (suc size) s v t c f = (0, left root (suc size) s, first_done root (suc size) s c, f)

-- ---- the judge, on a store s of which t is a cut

module _ (s : Store) (root size top : ℕ) (t : Store) (c : Cut s root top t) where
  -- the call is refused with k
  abbrev Refuses : Refusal → Type 0
  Refuses k = UvmFree root size t (Err k) t

  too_large : 2 ^ 38 < size → Refuses TooHigh
  too_large h = first_refuses root size t TooHigh (omega arith) (no_6 t root 0 (pages_to size) true c.at_root (2 ^ 26, omega arith, omega arith), refl)

  module _ (small : size ≤ 2 ^ 38) where
    -- a reason of the unmapping; where there are no pages there is none
    none_of_none : (u : Store) (k : ℕ) → size ≡ 0 → LeaveReason u root 0 (pages_to size) true k → ⊥
    none_of_none u k z (pooled m) = true≢false m.0
    none_of_none u k z (unmapped i l h) = omega arith
    none_of_none u k z (bare i l h) = omega arith

    by_leave : (k : Refusal) → Smallest (LeaveReason t root 0 (pages_to size) true) (number_of k) → Refuses k
    by_leave k m =
        first_refuses root size t k (λ z. none_of_none t (number_of k) z m.applies)
        (by_pages t root 0 (pages_to size) true c.at_root (λ q. omega (arith, q.1, q.2)) refl (Err k) m, refl)

    -- a page of size has gone before
    past : top < pages_to size → top < 2 ^ 26 → Refuses NotMapped
    past h l =
        by_leave NotMapped
        (record {
          applies = unmapped top h (λ m. omega (arith, ap (resolve t root) (zero-add top), c.gone top (le_refl top) l));
          least = none;
        })
      where
        none : (k : ℕ) → k < 11 → LeaveReason t root 0 (pages_to size) true k → ⊥
        none k l (pooled m) = true≢false m.0
        none k l (unmapped i q h) = omega arith
        none k l (bare i q h) = omega arith

    module _ (within : pages_to size ≤ top) where
      same : SamePages s t root 0 (pages_to size)
      same = record {
        pages = λ i l. ap (resolve t root) (zero-add i) ∙ c.below i (omega arith) ∙ ap (resolve s root) (sym (zero-add i));
        frames = c.frames;
      }

      -- the unmapping can be done, and n pages after it are mapped
      module _ (f : LeaveReady s root 0 (pages_to size) true) (n : ℕ) (count : PagesAlike s.words root (pages_to size) top 1 1 n) where
        can : CanLeave t root 0 (pages_to size) true
        can = record {
          asked = record { at_root = c.at_root; pages = omega arith };
          ready = ready_same same true f;
        }

        g : Gone t root 0 (pages_to size) true (left root size t)
        g = have_gone root size t can

        -- a page after those that leave
        after : (p : ℕ) → pages_to size ≤ p → p < 2 ^ 26 → resolve (left root size t) root p ≡ resolve t root p
        after p h l = g.others root p c.at_root.is_root l (λ a b d. omega arith)

        one_left : top ≤ 2 ^ 26 → (n ≡ 0 → ⊥) → Refuses PageLeft
        one_left high h =
            let q = one_has (entry_in s.words root 2) 1 1 (pages_to size) top n within count (omega arith) in
            let m : Mapped (left root size t) root q.0 =
            ap (bit bit_v) (after q.0 q.1 (omega (arith, q.2)) ∙ c.below q.0 q.2) ∙ counted_mapped s root q.0 q.3 in
            second_refuses root size t PageLeft can (still_mapped (left root size t) root (root_stays root size t can) (q.0, omega (arith, q.2), m), refl)

        none_left : n ≡ 0 → (p : ℕ) × (p < 2 ^ 26) × Mapped (left root size t) root p → ⊥
        none_left e (p, l, m) =
            by_cases (dec_lt p (pages_to size)) (λ y. omega (arith, ap (resolve (left root size t) root) (zero-add p), g.gone p y))
            (λ y. by_cases (dec_lt p top)
            (λ z. none_has (entry_in s.words root 2) 1 1 (pages_to size) top n within count e p (omega arith) z
            (mapped_counted s root p (ap (bit bit_v) (sym (after p (omega arith) l ∙ c.below p z)) ∙ m)))
            (λ z. omega (arith, after p (omega arith) l, c.gone p (omega arith) l)))

        all_left : n ≡ 0 → RestReady root size t
        all_left e = record { leave = can; free = record { at_root = root_stays root size t can; unmapped = none_left e } }

-- ---- what each way out of the judge says, where n is how many pages size takes

module _ (s : Store) (root size top : ℕ) (high : top ≤ 2 ^ 26) where
  pub size_refused : 2 ^ 38 < size → JudgesRest s root size top (Err TooHigh)
  size_refused h t c = too_large s root size top t c h

  module _ (small : size ≤ 2 ^ 38) (n : ℕ) (e : n ≡ pages_to size) where
    pub page_missing : top < n → JudgesRest s root size top (Err NotMapped)
    page_missing h t c = past s root size top t c small (omega arith) (omega arith)

    module _ (h : n ≤ top) where
      all_asked : n - 0 ≡ pages_to size
      all_asked = omega arith

      pub pages_refused : (k : Refusal) → Smallest (LeaveReason s root 0 (n - 0) true) (number_of k) → JudgesRest s root size top (Err k)
      pages_refused k m t c =
          by_leave s root size top t c small k
          (smallest_same (same s root size top t c small (omega arith)) true (number_of k) (subst (λ (x : ℕ). Smallest (LeaveReason s root 0 x true) (number_of k)) all_asked m))

      module _ (f : LeaveReady s root 0 (n - 0) true) (m : ℕ) (count : PagesAlike s.words root n top 1 1 m) where
        ready : LeaveReady s root 0 (pages_to size) true
        ready = subst (λ (x : ℕ). LeaveReady s root 0 x true) all_asked f

        counted : PagesAlike s.words root (pages_to size) top 1 1 m
        counted = subst (λ (x : ℕ). PagesAlike s.words root x top 1 1 m) e count

        pub tree_refused : (m ≡ 0 → ⊥) → JudgesRest s root size top (Err PageLeft)
        tree_refused x t c = one_left s root size top t c small (omega arith) ready m counted high x

        pub none_refused : m ≡ 0 → (t : Store) → Cut s root top t → RestReady root size t
        none_refused x t c = all_left s root size top t c small (omega arith) ready m counted x

-- ---- the work, where it can be done

module _ (s : Store) (root size : ℕ) (f : RestReady root size s) (n : ℕ) (e : n ≡ pages_to size) (t : Store) (q : t ≡ leave_pages s root 0 n true) where
  all_gone : t ≡ left root size s
  all_gone = q ∙ ap (λ (x : ℕ). leave_pages s root 0 x true) e

  free_ready : FreeReady t root
  free_ready = subst (λ (x : Store). FreeReady x root) (sym all_gone) f.free

  pub rest_done : (ws ms : List ℕ) (v : ℕ) → trees ws ms v ≡ free_tree 2 root t.words t.tmarks → UvmFree root size s (Ok v) (store_of ws ms t.bytes t.fmarks)
  rest_done ws ms v d =
      both_done root size s v (store_of ws ms t.bytes t.fmarks) f.leave
      (subst (λ (x : Store). Free x root (Ok v) (store_of ws ms t.bytes t.fmarks)) all_gone (done t root free_ready ws ms v d))
