-- `enter_pages`: what is missing falls page by page, and after the last page all of them have their entries. Assumes nothing.
use mathlib.Core.Path.{◌≡◌, refl, sym, ap, ◌∙◌, subst}
use mathlib.Core.Logic.{◌↔◌}
use Prim.Native.Nat.{ℕ, zero, suc, ◌+◌, ◌*◌, ◌/◌, ◌^◌, ◌≤◌, ◌<◌}
use native.Mathlib.Omega.{arith}
use native.Mathlib.Nat.{add-zero, add-suc, suc-add}
use Rattle.store.specs.Store.{Store, Sized, mark}
use Rattle.store.specs.Count.{free_tables}
use Rattle.store.specs.Walk.{entry_at, resolve}
use Rattle.store.proofs.Tree.{TreeOf, top}
use Rattle.walk.specs.Missing.{span, missing}
use Rattle.walk.proofs.Spans.{span_one, span_step, span_has}
use Rattle.walk.proofs.MissingLaws.{missing_none, missing_is}
use Rattle.enter.specs.Enter.{enter_page, enter_pages, Plain}
use Rattle.enter.proofs.EnterPage.{part, lacks, PageEntered, enter_page_lem}

-- ---- what is missing before the first page is entered, and after

pub missing_first : (s : Store) (r p n : ℕ) → lacks s r p ≤ missing s r p (suc n)
missing_first s r p n =
    omega (
      arith,
      missing_is s r p n,
      span_has (entry_at s r 0) (p / 512 / 512) ((p + n) / 512 / 512) (omega arith),
      span_has (entry_at s r 1) (p / 512) ((p + n) / 512) (omega arith),
    )

-- page p of root r has its two tables, and the root's walks to all others find what they found
pub record TablesThere (s s' : Store) (r p : ℕ) : Type 0 where
  pub group : 0 < entry_at s' r 0 (p / 512 / 512)
  pub block : 0 < entry_at s' r 1 (p / 512)
  pub rest : (d x : ℕ) → top d x < 256 → d < 2 → (x ≡ part d p → ⊥) → entry_at s' r d x ≡ entry_at s r d x

module _ (s s' : Store) (r p : ℕ) (en : TablesThere s s' r p) where
  groups : (n j : ℕ) → p + n < 2 ^ 26 → p / 512 / 512 < j → j ≤ (p + n) / 512 / 512 → entry_at s' r 0 j ≡ entry_at s r 0 j
  unfolding top part
  groups n j h a b = en.rest 0 j (omega arith) (omega arith) (λ c. omega arith)

  blocks : (n j : ℕ) → p + n < 2 ^ 26 → p / 512 < j → j ≤ (p + n) / 512 → entry_at s' r 1 j ≡ entry_at s r 1 j
  unfolding top part
  blocks n j h a b = en.rest 1 j (omega arith) (omega arith) (λ c. omega arith)

  pub missing_step : (n : ℕ) → p + n < 2 ^ 26 → missing s r p (suc n) ≡ lacks s r p + missing s' r (suc p) n
  missing_step zero h =
      omega (
        arith,
        missing_is s r p 0,
        missing_none s' r (suc p),
        ap (λ (x : ℕ). span (entry_at s r 0) (p / 512 / 512) (x / 512 / 512)) (add-zero p),
        ap (λ (x : ℕ). span (entry_at s r 1) (p / 512) (x / 512)) (add-zero p),
        span_one (entry_at s r 0) (p / 512 / 512),
        span_one (entry_at s r 1) (p / 512),
      )
  missing_step (suc n) h =
      let c : p + suc n ≡ suc p + n = omega arith in
      omega (
        arith,
        missing_is s r p (suc n),
        missing_is s' r (suc p) n,
        span_step (entry_at s r 0) (entry_at s' r 0) (p / 512 / 512) (suc p / 512 / 512) ((p + suc n) / 512 / 512) (omega arith) (omega arith) (omega arith) en.group (λ j. groups (suc n) j h),
        span_step (entry_at s r 1) (entry_at s' r 1) (p / 512) (suc p / 512) ((p + suc n) / 512) (omega arith) (omega arith) (omega arith) en.block (λ j. blocks (suc n) j h),
        ap (λ (x : ℕ). span (entry_at s' r 0) (suc p / 512 / 512) (x / 512 / 512)) c,
        ap (λ (x : ℕ). span (entry_at s' r 1) (suc p / 512) (x / 512)) c,
      )

pub entered_step : (s s' : Store) (r p e : ℕ) → mark s.tmarks r ≡ 1 → PageEntered s s' r p e → (n : ℕ) → p + n < 2 ^ 26 → missing s r p (suc n) ≡ lacks s r p + missing s' r (suc p) n
entered_step s s' r p e rr a = missing_step s s' r p (record { group = a.group; block = a.block; rest = λ d x l b n. a.rest r d x rr l (omega arith) (λ _ c. n c) })

-- ---- n pages

-- pages p .. p + n - 1 of root r can get the entries e, e + 1024, .., but for tables that may be missing
pub record Ready (n : ℕ) (s : Store) (r p e : ℕ) : Type 0 where
  pub sized : Sized s
  pub tree : TreeOf s
  pub root : mark s.tmarks r ≡ 1
  pub range : (i : ℕ) → i < n → p + i < 2 ^ 26
  pub unmapped : (i : ℕ) → i < n → resolve s r (p + i) ≡ 0
  pub plain : (i : ℕ) → i < n → Plain (e + 1024 * i)

-- they got them
pub record PagesEntered (s s' : Store) (r p n e : ℕ) : Type 0 where
  pub sized : Sized s'
  pub tree : TreeOf s'
  pub roots : (t : ℕ) → (mark s.tmarks t ≡ 1) ↔ (mark s'.tmarks t ≡ 1)
  pub bytes : s'.bytes ≡ s.bytes
  pub fmarks : s'.fmarks ≡ s.fmarks
  pub here : (i : ℕ) → i < n → resolve s' r (p + i) ≡ e + 1024 * i
  pub rest : (r' x : ℕ) → mark s.tmarks r' ≡ 1 → x < 2 ^ 26 → (r' ≡ r → p ≤ x → x < p + n → ⊥) → resolve s' r' x ≡ resolve s r' x
  pub free : free_tables s ≡ missing s r p n + free_tables s'

-- page p, and then the n pages after it
then : (s s₁ s₂ : Store) (r p n e : ℕ) → mark s.tmarks r ≡ 1 → p + n < 2 ^ 26 → PageEntered s s₁ r p e → PagesEntered s₁ s₂ r (suc p) n (e + 1024) → PagesEntered s s₂ r p (suc n) e
unfolding top part
then s s₁ s₂ r p n e rr h a b = record {
  sized = b.sized;
  tree = b.tree;
  roots = λ t. (λ q. (b.roots t).0 ((a.roots t).0 q), λ q. (a.roots t).1 ((b.roots t).1 q));
  bytes = b.bytes ∙ a.bytes;
  fmarks = b.fmarks ∙ a.fmarks;
  here = here;
  rest = λ r' x q l ne.
      b.rest r' x ((a.roots r').0 q) l (λ c u v. ne c (omega arith) (omega arith)) ∙ a.rest r' 2 x q (omega arith) (omega arith) (λ c d. ne c (omega arith) (omega arith));
  free = omega (arith, a.free, b.free, entered_step s s₁ r p e rr a n h);
}
  where
    here : (i : ℕ) → i < suc n → resolve s₂ r (p + i) ≡ e + 1024 * i
    here zero l = ap (resolve s₂ r) (add-zero p) ∙ b.rest r p ((a.roots r).0 rr) (omega arith) (λ _ u v. omega arith) ∙ a.here ∙ (omega arith)
    here (suc i) l = ap (resolve s₂ r) (add-suc p i ∙ sym (suc-add p i)) ∙ b.here i (omega arith) ∙ (omega arith)

pub first : (n : ℕ) (s : Store) (r p e : ℕ) → Ready (suc n) s r p e → lacks s r p ≤ free_tables s
    → PageEntered s (enter_page s r p e) r p e × Ready n (enter_page s r p e) r (suc p) (e + 1024)
unfolding top part
first n s r p e c f =
    let h : p + n < 2 ^ 26 = c.range n (omega arith) in
    let z : resolve s r p ≡ 0 = sym (ap (resolve s r) (add-zero p)) ∙ c.unmapped 0 (omega arith) in
    let e₀ : e + 1024 * 0 ≡ e = omega arith in
    let a = enter_page_lem s c.sized c.tree r p e c.root (omega arith) z (subst Plain e₀ (c.plain 0 (omega arith))) f in (
      a,
      record {
        sized = a.sized;
        tree = a.tree;
        root = (a.roots r).0 c.root;
        range = λ i l. omega arith;
        unmapped = λ i l.
            a.rest r 2 (suc p + i) c.root (omega arith) (omega arith) (λ _ q. omega arith) ∙ ap (resolve s r) (suc-add p i ∙ sym (add-suc p i))
            ∙ c.unmapped (suc i) (omega arith);
        plain = λ i l. let q : e + 1024 * suc i ≡ e + 1024 + 1024 * i = omega arith in subst Plain q (c.plain (suc i) (omega arith));
      },
    )

pub enter_pages_lem : (n : ℕ) (s : Store) (r p e : ℕ) → Ready n s r p e → missing s r p n ≤ free_tables s → PagesEntered s (enter_pages s r p n e) r p n e
unfolding enter_pages
enter_pages_lem zero s r p e c f = record {
  sized = c.sized;
  tree = c.tree;
  roots = λ t. (λ q. q, λ q. q);
  bytes = refl;
  fmarks = refl;
  here = λ i l. absurd (omega arith);
  rest = λ r' x q l n. refl;
  free = omega (arith, missing_none s r p);
}
enter_pages_lem (suc n) s r p e c f =
    let h = c.range n (omega arith) in
    let q = first n s r p e c (omega (arith, missing_first s r p n)) in
    let m = entered_step s (enter_page s r p e) r p e c.root q.0 n h in
    then s (enter_page s r p e) (enter_pages (enter_page s r p e) r (suc p) n (e + 1024)) r p n e c.root h q.0
    (enter_pages_lem n (enter_page s r p e) r (suc p) (e + 1024) q.1 (omega (arith, q.0.free, m)))

-- ---- the count of the missing tables before the first page decides whether there are tables enough at every page

unfoldable pub HasEnough : ℕ → Store → ℕ → ℕ → ℕ → Type 0
HasEnough zero s r p e = Unit {0}
HasEnough (suc n) s r p e = (lacks s r p ≤ free_tables s) × HasEnough n (enter_page s r p e) r (suc p) (e + 1024)

pub runs_out : (n : ℕ) (s : Store) (r p e : ℕ) → Ready n s r p e → HasEnough n s r p e ↔ (missing s r p n ≤ free_tables s)
unfolding HasEnough
runs_out zero s r p e c = (λ _. omega (arith, missing_none s r p), λ _. tt)
runs_out (suc n) s r p e c = (
  λ a.
      let q = first n s r p e c a.0 in
      let m = entered_step s (enter_page s r p e) r p e c.root q.0 n (c.range n (omega arith)) in
      omega (arith, q.0.free, m, (runs_out n (enter_page s r p e) r (suc p) (e + 1024) q.1).0 a.1),
  λ l.
      let f : lacks s r p ≤ free_tables s = omega (arith, missing_first s r p n) in
      let q = first n s r p e c f in
      let m = entered_step s (enter_page s r p e) r p e c.root q.0 n (c.range n (omega arith)) in
      (f, (runs_out n (enter_page s r p e) r (suc p) (e + 1024) q.1).1 (omega (arith, q.0.free, m))),
)
