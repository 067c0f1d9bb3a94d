-- Pages of one block: after the first has its tables, the others lack none and their slots follow. Assumes nothing.
use mathlib.Core.Path.{◌≡◌, refl, sym, ap, ◌∙◌, subst}
use Prim.Native.Nat.{ℕ, zero, suc, ◌+◌, ◌/◌, ◌%◌, ◌^◌, ◌≤◌, ◌<◌}
use native.Mathlib.Omega.{arith}
use native.Mathlib.Nat.{add-zero}
use lib.ListN.{length}
use Rattle.store.specs.Store.{Store, store_of, mark, pointer_to}
use Rattle.store.specs.Count.{lowest, free_tables}
use Rattle.store.specs.Level.{home, level}
use Rattle.store.specs.Walk.{slot_word, slot_in, slot, entry_at, resolve}
use Rattle.store.proofs.Free.{is_zero_pos}
use Rattle.store.proofs.Tree.{top}
use Rattle.store.proofs.Walk.{top_of, depth, above}
use Rattle.enter.specs.Enter.{linked, stored, if_zero, hang, tabled, enter_page, enter_pages, put_run, enter_run, Plain}
use Rattle.enter.proofs.Updates.{length_put}
use Rattle.enter.proofs.Step.{in_words}
use Rattle.enter.proofs.Write.{store_step}
use Rattle.enter.proofs.EnterPage.{lacks, plain_leaf, page_slot, Tabled, tabled_there}
use Rattle.enter.proofs.EnterPages.{Ready, first}

-- nothing is hung where a word stands already
hang_there : (s : Store) (m : ℕ) → 0 < slot_word s.words m → hang s m ≡ s
unfolding hang
hang_there s m h = go (slot_word s.words m) h
  where
    go : (x : ℕ) → 0 < x → if_zero x (linked s m (lowest s.tmarks)) s ≡ s
    go zero l = absurd (omega arith)
    go (suc x) l = refl

tabled_already : (s : Store) (r p : ℕ) → 0 < entry_at s r 0 (p / 512 / 512) → 0 < entry_at s r 1 (p / 512) → tabled s r p ≡ s
unfolding tabled entry_at
tabled_already s r p g b =
    ap (λ (x : Store). hang x (slot (slot_word x.words) r 1 (p / 512))) (hang_there s (slot (slot_word s.words) r 0 (p / 512 / 512)) g)
    ∙ hang_there s (slot (slot_word s.words) r 1 (p / 512)) b

-- a page that lacks no table is entered by one write
one_write : (s : Store) (r p e : ℕ) → 0 < entry_at s r 0 (p / 512 / 512) → 0 < entry_at s r 1 (p / 512)
    → enter_page s r p e ≡ stored s (slot (slot_word s.words) r 2 p) e
unfolding enter_page
one_write s r p e g b = ap (λ (x : Store). stored x (slot (slot_word x.words) r 2 p) e) (tabled_already s r p g b)

-- the next page of the block has the next slot, in every store in which the block has the same entry
pub next_slot : (s s' : Store) (r p : ℕ) → suc p % 512 ≡ suc (p % 512) → entry_at s' r 1 (p / 512) ≡ entry_at s r 1 (p / 512) → 2 ≤ slot (slot_word s.words) r 2 p
    → slot (slot_word s'.words) r 2 (suc p) ≡ suc (slot (slot_word s.words) r 2 p)
unfolding slot entry_at
next_slot s s' r p i same m2 =
    let b : suc p / 512 ≡ p / 512 = omega arith in
    ap (λ (x : ℕ). slot_in x (suc p % 512)) (ap (entry_at s' r 1) b ∙ same) ∙ ap (slot_in (entry_at s r 1 (p / 512))) i ∙ (omega arith)

-- the run from page p on, where its tables are there
run_there : (n : ℕ) (s : Store) (r p e : ℕ) → Ready (suc n) s r p e → 0 < entry_at s r 0 (p / 512 / 512) → 0 < entry_at s r 1 (p / 512) → p % 512 + suc n ≤ 512
    → enter_pages s r p (suc n) e ≡ store_of (put_run s.words (slot (slot_word s.words) r 2 p) (suc n) e) s.tmarks s.bytes s.fmarks
unfolding enter_pages put_run top
run_there zero s r p e c g b l = one_write s r p e g b
run_there (suc n) s r p e c g b l =
    let s' : Store = stored s (slot (slot_word s.words) r 2 p) e in
    let one : enter_page s r p e ≡ s' = one_write s r p e g b in
    let z : lacks s r p ≤ free_tables s = omega (arith, is_zero_pos (entry_at s r 0 (p / 512 / 512)) (λ q. omega arith), is_zero_pos (entry_at s r 1 (p / 512)) (λ q. omega arith)) in
    let h : p < 2 ^ 26 = omega (arith, c.range 0 (omega arith)) in
    let m2 : 2 ≤ slot (slot_word s.words) r 2 p = page_slot s c.tree r p c.root h b in
    let none : entry_at s r 2 p ≡ 0 = sym (ap (resolve s r) (add-zero p)) ∙ c.unmapped 0 (omega arith) in
    let e₀ : e + 0 ≡ e = omega arith in
    let ok = plain_leaf (mark s.fmarks) (slot (slot_word s.words) r 2 p) e (subst Plain e₀ (c.plain 0 (omega arith))) in
    let st = store_step s c.sized c.tree r p e c.root (top_of p h) m2 none ok in
    let b₁ : suc p / 512 ≡ p / 512 = omega arith in
    let same₀ : entry_at s' r 0 (suc p / 512 / 512) ≡ entry_at s r 0 (p / 512 / 512) =
    ap (λ (x : ℕ). entry_at s' r 0 (x / 512)) b₁ ∙ st.rest r 0 (p / 512 / 512) c.root (omega arith) (omega arith) (λ u v y. omega arith) in
    let same₁ : entry_at s' r 1 (p / 512) ≡ entry_at s r 1 (p / 512) = st.rest r 1 (p / 512) c.root (omega arith) (omega arith) (λ u v y. omega arith) in
    let c' : Ready (suc n) s' r (suc p) (e + 1024) = subst (λ (x : Store). Ready (suc n) x r (suc p) (e + 1024)) one (first (suc n) s r p e c z).1 in
    ap (λ (x : Store). enter_pages x r (suc p) (suc n) (e + 1024)) one
    ∙ run_there n s' r (suc p) (e + 1024) c' (omega (arith, same₀)) (omega (arith, same₁, ap (entry_at s' r 1) b₁)) (omega arith)
    ∙ ap (λ (k : ℕ). store_of (put_run s'.words k (suc n) (e + 1024)) s.tmarks s.bytes s.fmarks) (next_slot s s' r p (omega arith) same₁ m2)

-- hanging tables leaves as many words
hang_length : (s : Store) (m : ℕ) → length (hang s m).words ≡ length s.words
unfolding hang
hang_length s m = go (slot_word s.words m)
  where
    go : (x : ℕ) → length (if_zero x (linked s m (lowest s.tmarks)) s).words ≡ length s.words
    go zero = length_put s.words m (pointer_to (lowest s.tmarks))
    go (suc x) = refl

pub tabled_length : (s : Store) (r p : ℕ) → length (tabled s r p).words ≡ length s.words
unfolding tabled
tabled_length s r p =
    let s₁ : Store = hang s (slot (slot_word s.words) r 0 (p / 512 / 512)) in
    hang_length s₁ (slot (slot_word s₁.words) r 1 (p / 512)) ∙ hang_length s (slot (slot_word s.words) r 0 (p / 512 / 512))

-- the run from page p on, whatever is missing
module _ (n : ℕ) (s : Store) (r p e : ℕ) (c : Ready (suc n) s r p e) (f : lacks s r p ≤ free_tables s) (l : p % 512 + suc n ≤ 512) where
  h : p < 2 ^ 26
  h = omega (arith, c.range 0 (omega arith))

  pub hung_first : Tabled s (tabled s r p) r p
  hung_first = tabled_there s c.sized c.tree r p c.root h f

  ready : Ready (suc n) (tabled s r p) r p e
  unfolding top
  ready = let g = hung_first in record {
    sized = g.sized;
    tree = g.tree;
    root = (g.roots r).0 c.root;
    range = c.range;
    unmapped = λ i q. g.rest r 2 (p + i) c.root (omega (arith, c.range i q)) (omega arith) (λ a b d. omega arith) ∙ c.unmapped i q;
    plain = c.plain;
  }

  -- entering its pages one by one is entering the run
  pub by_run : enter_pages s r p (suc n) e ≡ enter_run s r p (suc n) e
  unfolding enter_pages enter_page enter_run
  by_run =
      let g = hung_first in
      ap (λ (x : Store). enter_pages (stored x (slot (slot_word x.words) r 2 p) e) r (suc p) n (e + 1024)) (sym (tabled_already (tabled s r p) r p g.group g.block))
      ∙ run_there n (tabled s r p) r p e ready g.group g.block l

  -- its slots are those of words
  pub run_from : 2 ≤ slot (slot_word (tabled s r p).words) r 2 p
  run_from = page_slot (tabled s r p) hung_first.tree r p ((hung_first.roots r).0 c.root) h hung_first.block

  pub run_upto : slot (slot_word (tabled s r p).words) r 2 p + suc n ≤ 2 + length (tabled s r p).words
  unfolding top
  run_upto =
      let g = hung_first in
      let rr = (g.roots r).0 c.root in
      let m : ℕ = slot (slot_word (tabled s r p).words) r 2 p in
      let d = depth g.tree r 2 p rr (omega (arith, h)) (omega arith) run_from in
      let u = above g.tree r 1 p rr (omega (arith, h)) (omega arith) run_from in
      let y : home (m + n) ≡ home m = omega (arith, u.2, run_from) in
      omega (arith, in_words (tabled s r p) g.sized g.tree (m + n) (omega (arith, run_from)) (omega (arith, d, ap (level (tabled s r p).tmarks) y)))
