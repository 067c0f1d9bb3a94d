-- A turn of the loop that follows a string, a page's part at a time. Assumes nothing.
use mathlib.Core.Path.{◌≡◌, sym, ap, ap₂, subst, ◌∙◌}
use mathlib.Core.Bool.{Bool, true, false}
use mathlib.Core.Logic.{◌⊎◌, inl, inr, ⊎_elim, by_cases}
use Prim.Native.Nat.{ℕ, ◌+◌, ◌-◌, ◌/◌, ◌%◌, ◌^◌, ◌≤◌, ◌<◌, min}
use native.Mathlib.Decide.{dec_lt}
use native.Mathlib.Omega.{arith}
use borrow.Author.Tests.{lt-ltb, le-ltb}
use borrow.Rule.Slice.PartMut.{mid_of}
use lib.Dec.{ltb}
use lib.ListN.{length, take, drop}
use Rattle.address.specs.Field.{bit}
use Rattle.page_table_entry.specs.Layout.{bit_u}
use Rattle.store.specs.Store.{Store}
use Rattle.store.specs.Count.{lowest}
use Rattle.store.specs.Walk.{resolve}
use Rattle.store.specs.Outcome.{Smallest, NoReason}
use Rattle.well_formed.specs.Root.{RootReady}
use Rattle.well_formed.proofs.RootReasons.{root_clear}
use Rattle.walk.specs.Mapped.{Mapped}
use Rattle.unmap.specs.Leave.{PoolFrame}
use Rattle.copies.specs.Bytes.{place_at, byte_at}
use Rattle.copies.specs.Needed.{PageReason, too_high, PageReady, Needs}
use Rattle.strings.specs.Str.{Passed, StrReason, at_root, page, str_length, Measured}
use Rattle.copies.proofs.BytesCode.{turn}
use Rattle.copies.proofs.BytesLaws.{page_room, bytes_page}
use Rattle.copies.proofs.PageReasons.{page_clear}
use Rattle.strings.proofs.StrLaws.{str_lowest, zero_met_lem, str_le, str_before, str_zero, str_is}

-- the string has been followed up to byte i, whose page is needed
pub record Following (s : Store) (root va max i : ℕ) : Type 0 where
  pub needed : Needs max i
  pub passed : (j : ℕ) → j < i → Passed s root (va + j)

-- an address of the same page can be used as well
same_page : (s : Store) (r a b : ℕ) → b / 4096 ≡ a / 4096 → PageReady s r a → PageReady s r b
same_page s r a b e p = record {
  below = omega (arith, p.below, e);
  mapped = subst (Mapped s r) (sym e) p.mapped;
  user = subst (λ (x : ℕ). bit bit_u (resolve s r x) ≡ 1) (sym e) p.user;
  pool = subst (λ (x : ℕ). PoolFrame s (resolve s r x)) (sym e) p.pool;
}

module _ (s : Store) (root va max : ℕ) where
  module _ (i : ℕ) (g : Following s root va max i) where
    upto : i ≤ max
    upto = ⊎_elim (λ l. omega arith) (λ e. omega arith) g.needed

    -- the address of byte i is a number of 64 bits
    pub fits : va < 2 ^ 64 → va + i < 2 ^ 64
    fits h =
        by_cases (dec_lt 0 i)
        (λ l.
        by_cases (dec_lt (va + (i - 1)) (2 ^ 38)) (λ b. omega arith) (λ n. absurd ((g.passed (i - 1) (omega arith)).page 6 (too_high (omega arith)))))
        (λ n. omega arith)

  -- m bytes are passed, and the way ends there
  module _ (f : RootReady s root) (m : ℕ) (p : (j : ℕ) → j < m → Passed s root (va + j)) where
    -- the page of the next one cannot be read
    pub refuse : Needs max m → (n : ℕ) → Smallest (PageReason s root (va + m)) n → Smallest (StrReason s root va max) n
    refuse d n q = record { applies = page m d p q.applies; least = least }
      where
        least : (k : ℕ) → k < n → StrReason s root va max k → ⊥
        least k l (at_root x) = root_clear s root f k x
        least k l (page i d' p' x) =
            by_cases (dec_lt i m) (λ b. (p i b).page k x)
            (λ b.
            by_cases (dec_lt m i) (λ c. (p' m c).page n q.applies)
            (λ c. let e : i ≡ m = omega arith in q.least k l (subst (λ (y : ℕ). PageReason s root (va + y) k) e x)))

    -- the next one is zero, or all are passed
    module _ (u : m ≤ max) (c : Needs max m → NoReason (PageReason s root (va + m))) (z : m < max → byte_at s root (va + m) ≡ 0) where
      none : NoReason (StrReason s root va max)
      none k (at_root x) = root_clear s root f k x
      none k (page i d' p' x) =
          by_cases (dec_lt i m) (λ b. (p i b).page k x)
          (λ b.
          by_cases (dec_lt m i) (λ l. (p' m l).more (z (⊎_elim (λ h. omega arith) (λ h. omega arith) d')))
          (λ l. let e : i ≡ m = omega arith in c (subst (Needs max) e d') k (subst (λ (y : ℕ). PageReason s root (va + y) k) e x)))

      ends : (met : Bool) → met ≡ ltb m max → Measured s root va max m met
      ends met e =
          let n : m ≡ str_length s root va max = str_is s root va max m u (λ j l. (p j l).more) z in
          record { clear = none; count = n; zero = e ∙ ap (λ (x : ℕ). ltb x max) n ∙ sym (zero_met_lem s root va max) }

  -- a turn: the page of byte i can be read, k bytes of it are looked at from the place of byte i on, and z is that of their first zero
  module _ (f : RootReady s root) (i : ℕ) (g : Following s root va max i) (p : PageReady s root (va + i)) where
    module _ (k from : ℕ) (ek : k ≡ min (4096 - (va + i) % 4096) (max - i)) (ef : from ≡ place_at s root (va + i)) where
      one : (va + i) % 4096 + k ≤ 4096
      one = turn (va + i) (max - i) k ek

      within : i + k ≤ max
      within = omega (arith, ek, upto i g)

      there : place_at s root (va + i) + k ≤ length s.bytes
      there = page_room s root f.sized (va + i) k p one

      -- the pages of the bytes up to the last one looked at
      near : (j : ℕ) → i ≤ j → j < i + k ⊎ (j ≡ i) → PageReady s root (va + j)
      near j h l = same_page s root (va + i) (va + j) (⊎_elim (λ b. omega (arith, one)) (λ e. omega arith) l) p

      module _ (z : ℕ) (ez : z ≡ lowest (mid_of from (from + k - from) s.bytes)) where
        run : z ≡ str_length s root (va + i) k
        run =
            let n : from + k - from ≡ k = omega arith in
            ez ∙ ap₂ (λ (x y : ℕ). lowest (take x (drop y s.bytes))) n ef ∙ ap lowest (sym (bytes_page s root (va + i) k one there)) ∙ sym (str_lowest s root (va + i) k)

        further : (j : ℕ) → j < i + z → Passed s root (va + j)
        further j l =
            by_cases (dec_lt j i) (g.passed j)
            (λ n.
            let e : va + i + (j - i) ≡ va + j = omega arith in
            let u : z ≤ k = omega (arith, run, str_le s root (va + i) k) in
            record {
              page = page_clear (near j (omega arith) (inl (omega arith)));
              more = λ x. str_before s root (va + i) k (j - i) (omega (arith, run)) (ap (byte_at s root) e ∙ x);
            })

        pub met : z < k → Measured s root va max (i + z) true
        met h =
            let e : va + (i + z) ≡ va + i + str_length s root (va + i) k = omega (arith, run) in
            ends f (i + z) further (omega (arith, within)) (λ _. page_clear (near (i + z) (omega arith) (inl (omega arith))))
            (λ _. ap (byte_at s root) e ∙ str_zero s root (va + i) k (omega (arith, run)))
            true
            (sym (lt-ltb (i + z) max (omega (arith, within))))

        module _ (h : k ≤ z) where
          all : (j : ℕ) → j < i + k → Passed s root (va + j)
          all j l = further j (omega arith)

          pub whole : max ≤ i + k → Measured s root va max (i + k) false
          whole l =
              ends f (i + k) all within (λ d. page_clear (near (i + k) (omega arith) (⊎_elim (λ b. absurd (omega arith)) (λ e. inr (omega arith)) d))) (λ b. absurd (omega arith))
              false
              (sym (le-ltb (i + k) max l))

          pub again : i + k < max → Following s root va max (i + k)
          again n = record { needed = inl n; passed = all }
