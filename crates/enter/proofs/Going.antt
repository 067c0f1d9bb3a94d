-- The loop that enters pages: what holds before each page, at the start and at the end. Assumes nothing.
use mathlib.Core.Path.{◌≡◌, refl, sym, ap, ap₂, ◌∙◌, subst}
use mathlib.Core.List.{List, []}
use Prim.Native.Nat.{ℕ, zero, suc, ◌+◌, ◌-◌, ◌*◌, ◌/◌, ◌%◌, ◌^◌, ◌≤◌, ◌<◌}
use native.Mathlib.Omega.{arith}
use Rattle.store.specs.Store.{Store, store_of}
use Rattle.store.specs.Count.{lowest, free_tables}
use Rattle.store.specs.Walk.{slot_word, slot}
use Rattle.store.proofs.Tree.{tree_of}
use Rattle.walk.specs.Missing.{missing}
use Rattle.walk.proofs.Calls.{root_in}
use Rattle.enter.specs.Enter.{if_zero, linked, hang, tabled, enter_page, enter_pages, enter_run, CanEnter, RunFits}
use Rattle.enter.proofs.EnterPage.{lacks, slot_fits}
use Rattle.enter.proofs.Runs.{by_run, run_from, run_upto, tabled_length}
use Rattle.enter.proofs.EnterPages.{Ready, first, missing_first, entered_step}

-- i of n pages are entered, and s is the store so far
pub record Going (s₀ : Store) (r p n e : ℕ) (s : Store) (i : ℕ) : Type 0 where
  pub within : i ≤ n
  pub ready : Ready (n - i) s r (p + i) (e + 1024 * i)
  pub room : missing s r (p + i) (n - i) ≤ free_tables s
  pub whole : enter_pages s₀ r p n e ≡ enter_pages s r (p + i) (n - i) (e + 1024 * i)

pub start : (s : Store) (r p n e : ℕ) → CanEnter s r p n e → Going s r p n e s 0
start s r p n e c =
    let a : p ≡ p + 0 = omega arith in
    let b : e ≡ e + 1024 * 0 = omega arith in
    let k : n ≡ n - 0 = omega arith in
    let q = c.at_root in
    let f : Ready n s r p e =
    record { sized = q.sized; tree = tree_of s q.sized q.formed; root = q.is_root; range = c.pages; unmapped = c.unmapped; plain = c.plain } in
    record {
      within = omega arith;
      ready = subst (λ (x : ℕ). Ready (n - 0) s r x (e + 1024 * 0)) a (subst (λ (x : ℕ). Ready (n - 0) s r p x) b (subst (λ (x : ℕ). Ready x s r p e) k f));
      room = omega (arith, c.tables, ap₂ (missing s r) a k);
      whole = ap₂ (λ (x y : ℕ). enter_pages s r x y e) a k ∙ ap (enter_pages s r (p + 0) (n - 0)) b;
    }

module _ (s₀ : Store) (r p n e : ℕ) (s : Store) (i : ℕ) (g : Going s₀ r p n e s i) where
  -- the last page is entered
  pub done : n ≤ i → s ≡ enter_pages s₀ r p n e
  unfolding enter_pages
  done h = let k : n - i ≡ 0 = omega arith in sym (g.whole ∙ ap (λ (x : ℕ). enter_pages s r (p + i) x (e + 1024 * i)) k)

  module _ (h : i < n) where
    k : ℕ
    k = n - suc i

    more : Ready (suc k) s r (p + i) (e + 1024 * i)
    unfolding k
    more = let q : n - i ≡ suc (n - suc i) = omega arith in subst (λ (x : ℕ). Ready x s r (p + i) (e + 1024 * i)) q g.ready

    few : lacks s r (p + i) ≤ free_tables s
    unfolding k
    few = let q : n - i ≡ suc (n - suc i) = omega arith in omega (arith, g.room, ap (missing s r (p + i)) q, missing_first s r (p + i) (n - suc i))

    pub page : p + i < 2 ^ 26
    page = omega (arith, more.range 0 (omega arith))

    pub small : e + 1024 * i < 2 ^ 54
    small = omega (arith, (more.plain 0 (omega arith)).small)

    s₁ : Store
    s₁ = enter_page s r (p + i) (e + 1024 * i)

    pub next : Going s₀ r p n e (enter_page s r (p + i) (e + 1024 * i)) (i + 1)
    unfolding k enter_pages
    next =
        let q : n - i ≡ suc (n - suc i) = omega arith in
        let a : suc (p + i) ≡ p + (i + 1) = omega arith in
        let b : e + 1024 * i + 1024 ≡ e + 1024 * (i + 1) = omega arith in
        let c : n - suc i ≡ n - (i + 1) = omega arith in
        let f = first (n - suc i) s r (p + i) (e + 1024 * i) more few in
        let m = entered_step s (enter_page s r (p + i) (e + 1024 * i)) r (p + i) (e + 1024 * i) more.root f.0 (n - suc i) (more.range (n - suc i) (omega arith)) in
        record {
          within = omega arith;
          ready =
              subst (λ (x : ℕ). Ready (n - (i + 1)) (enter_page s r (p + i) (e + 1024 * i)) r x (e + 1024 * (i + 1))) a
              (subst (λ (x : ℕ). Ready (n - (i + 1)) (enter_page s r (p + i) (e + 1024 * i)) r (suc (p + i)) x) b
              (subst (λ (x : ℕ). Ready x (enter_page s r (p + i) (e + 1024 * i)) r (suc (p + i)) (e + 1024 * i + 1024)) c f.1));
          room = omega (arith, g.room, ap (missing s r (p + i)) q, f.0.free, m, ap₂ (missing (enter_page s r (p + i) (e + 1024 * i)) r) a c);
          whole =
              g.whole ∙ ap (λ (x : ℕ). enter_pages s r (p + i) x (e + 1024 * i)) q
              ∙ ap₂ (λ (x y : ℕ). enter_pages (enter_page s r (p + i) (e + 1024 * i)) r x y (e + 1024 * i + 1024)) a c
              ∙ ap (enter_pages (enter_page s r (p + i) (e + 1024 * i)) r (p + (i + 1)) (n - (i + 1))) b;
        }

-- k pages more are entered
onward : (s₀ : Store) (r p n e k : ℕ) (s : Store) (i : ℕ) → Going s₀ r p n e s i → i + k ≤ n → Going s₀ r p n e (enter_pages s r (p + i) k (e + 1024 * i)) (i + k)
unfolding enter_pages
onward s₀ r p n e zero s i g h = let q : i ≡ i + 0 = omega arith in subst (Going s₀ r p n e s) q g
onward s₀ r p n e (suc k) s i g h =
    let s₁ : Store = enter_page s r (p + i) (e + 1024 * i) in
    let a : p + (i + 1) ≡ suc (p + i) = omega arith in
    let b : e + 1024 * (i + 1) ≡ e + 1024 * i + 1024 = omega arith in
    let c : i + 1 + k ≡ i + suc k = omega arith in
    subst (λ (x : ℕ). Going s₀ r p n e (enter_pages s₁ r (suc (p + i)) k (e + 1024 * i + 1024)) x) c
    (subst (λ (x : ℕ). Going s₀ r p n e (enter_pages s₁ r (suc (p + i)) k x) (i + 1 + k)) b
    (subst (λ (x : ℕ). Going s₀ r p n e (enter_pages s₁ r x k (e + 1024 * (i + 1))) (i + 1 + k)) a
    (onward s₀ r p n e k s₁ (i + 1) (next s₀ r p n e s i g (omega arith)) (omega arith))))

-- hanging tables does not look at frames
pub hang_framed : (ws ms bs fs : List ℕ) (m : ℕ) → hang (store_of ws ms bs fs) m ≡ store_of (hang (store_of ws ms [] []) m).words (hang (store_of ws ms [] []) m).tmarks bs fs
unfolding hang
hang_framed ws ms bs fs m = go (slot_word ws m)
  where
    go : (x : ℕ) → if_zero x (linked (store_of ws ms bs fs) m (lowest ms)) (store_of ws ms bs fs)
        ≡ store_of (if_zero x (linked (store_of ws ms [] []) m (lowest ms)) (store_of ws ms [] [])).words (if_zero x (linked (store_of ws ms [] []) m (lowest ms)) (store_of ws ms [] [])).tmarks bs fs
    go zero = refl
    go (suc x) = refl

pub tabled_words : (ws ms bs fs : List ℕ) (r p : ℕ) → (tabled (store_of ws ms [] []) r p).words ≡ (tabled (store_of ws ms bs fs) r p).words
unfolding tabled
tabled_words ws ms bs fs r p =
    let m : ℕ = slot (slot_word ws) r 0 (p / 512 / 512) in
    let s₁ : Store = hang (store_of ws ms [] []) m in
    let second : Store → List ℕ = λ s. (hang s (slot (slot_word s.words) r 1 (p / 512))).words in
    ap second (hang_framed ws ms [] [] m)
    ∙ sym (ap (λ (s : Store). s.words) (hang_framed s₁.words s₁.tmarks bs fs (slot (slot_word s₁.words) r 1 (p / 512)))) ∙ sym (ap second (hang_framed ws ms bs fs m))

-- a run of the next k pages, all in one block
module _ (s₀ : Store) (r p n e : ℕ) (ws ms bs fs : List ℕ) (i : ℕ) (g : Going s₀ r p n e (store_of ws ms bs fs) i) where
  abbrev s : Store
  s = store_of ws ms bs fs

  ready : (k : ℕ) → i + k ≤ n → Ready k s r (p + i) (e + 1024 * i)
  ready k h = let c = g.ready in record {
    sized = c.sized;
    tree = c.tree;
    root = c.root;
    range = λ j l. c.range j (omega arith);
    unmapped = λ j l. c.unmapped j (omega arith);
    plain = λ j l. c.plain j (omega arith);
  }

  -- what its code asks
  pub can : (k : ℕ) → 0 < k → i + k ≤ n → (p + i) % 512 + k ≤ 512 → RunFits ws ms r (p + i) k (e + 1024 * i)
  can zero o h l = absurd (omega arith)
  can (suc k) o h l =
      let c = ready (suc k) h in
      let f = few s₀ r p n e s i g (omega arith) in
      let q = page s₀ r p n e s i g (omega arith) in
      let w = tabled_words ws ms bs fs r (p + i) in
      let m : ℕ = slot (slot_word ws) r 0 ((p + i) / 512 / 512) in
      record {
        hangable = record {
          tables = c.sized.tables_to;
          is_root = root_in s r c.sized c.root;
          page = q;
          fits = rw (sym (ap (λ (x : Store). x.words) (hang_framed ws ms bs fs m))) (slot_fits s c.sized c.tree r (p + i) c.root q f);
        };
        from = rw w (run_from k s r (p + i) (e + 1024 * i) c f l);
        upto = rw w (omega (arith, run_upto k s r (p + i) (e + 1024 * i) c f l, tabled_length s r (p + i)));
        small = omega (arith, (c.plain k (omega arith)).small);
      }

  -- what holds after it
  pub after : (k : ℕ) → 0 < k → i + k ≤ n → (p + i) % 512 + k ≤ 512 → (s' : Store) → s' ≡ enter_run s r (p + i) k (e + 1024 * i) → Going s₀ r p n e s' (i + k)
  after zero o h l s' q = absurd (omega arith)
  after (suc k) o h l s' q =
      subst (λ (x : Store). Going s₀ r p n e x (i + suc k)) (by_run k s r (p + i) (e + 1024 * i) (ready (suc k) h) (few s₀ r p n e s i g (omega arith)) l ∙ sym q)
      (onward s₀ r p n e (suc k) s i g h)
