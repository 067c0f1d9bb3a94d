-- Pages that can get fresh frames: after the first has its frame the others still can, and what the code of one page asks holds. Assumes nothing.
use mathlib.Core.Path.{◌≡◌, sym, ap, ◌∙◌}
use mathlib.Core.Logic.{by_cases}
use mathlib.Core.List.{List}
use Prim.Native.Nat.{ℕ, suc, ◌+◌, ◌/◌, ◌%◌, ◌^◌, ◌≤◌, ◌<◌}
use native.Mathlib.Decide.{dec_lt}
use native.Mathlib.Nat.{add-zero, add-suc, suc-add}
use native.Mathlib.Omega.{arith}
use lib.ListN.{length}
use Rattle.store.specs.Store.{Store, Sized, mark}
use Rattle.store.specs.Count.{lowest, free_tables, free_frames}
use Rattle.store.specs.Walk.{slot_word, slot, resolve}
use Rattle.store.proofs.Tree.{TreeOf, top, tree_of}
use Rattle.walk.specs.Missing.{missing}
use Rattle.walk.proofs.Calls.{root_in}
use Rattle.walk.proofs.Pages.{mapped_word}
use Rattle.enter.proofs.EnterPage.{part, lacks, slot_fits}
use Rattle.enter.proofs.EnterPages.{missing_first, missing_step}
use Rattle.enter.proofs.Going.{hang_framed, tabled_words}
use Rattle.fresh.specs.Fresh.{fresh_page, CanFresh, FrameFits}
use Rattle.fresh.proofs.FreshPage.{PageFresh, slot_small, fresh_page_lem}

-- pages p .. p + n - 1 of root r can get fresh frames
pub record Growable (n : ℕ) (s : Store) (r p : ℕ) : Type 0 where
  pub sized : Sized s
  pub tree : TreeOf s
  pub root : mark s.tmarks r ≡ 1
  pub range : (i : ℕ) → i < n → p + i < 2 ^ 26
  pub unmapped : (i : ℕ) → i < n → resolve s r (p + i) ≡ 0
  pub frames : n ≤ free_frames s
  pub tables : missing s r p n ≤ free_tables s

-- what the judge showed is enough
pub growable : (s : Store) (r p n : ℕ) → CanFresh s r p n → Growable n s r p
growable s r p n c =
    let a = c.asked.at_root in
    record {
      sized = a.sized;
      tree = tree_of s a.sized a.formed;
      root = a.is_root;
      range = λ i l. omega (arith, c.asked.pages);
      unmapped = λ i l.
          by_cases (dec_lt 0 (resolve s r (p + i)))
          (λ q. absurd (c.ready.unmapped i l (mapped_word s a.sized a.formed r a.is_root (p + i) (omega (arith, c.asked.pages)) (λ e. omega arith)))) (λ m. omega arith);
      frames = c.ready.frames;
      tables = c.ready.tables;
    }

module _ (n : ℕ) (s : Store) (r p : ℕ) (c : Growable (suc n) s r p) where
  h : p < 2 ^ 26
  h = omega (arith, c.range 0 (omega arith))

  few : lacks s r p ≤ free_tables s
  few = omega (arith, c.tables, missing_first s r p n)

  -- what the code of the first page asks
  pub frame_fits : (a : ℕ) → a ≤ lowest s.fmarks → FrameFits s.words s.tmarks s.fmarks r p a
  frame_fits a l = record {
    hangable = record {
      tables = c.sized.tables_to;
      is_root = root_in s r c.sized c.root;
      page = h;
      fits =
          rw (sym (ap (λ (x : Store). x.words) (hang_framed s.words s.tmarks s.bytes s.fmarks (slot (slot_word s.words) r 0 (p / 512 / 512)))))
          (slot_fits s c.sized c.tree r p c.root h few);
    };
    fits = rw (tabled_words s.words s.tmarks s.bytes s.fmarks r p) (slot_small s c.sized c.tree r p c.root h few);
    frames = c.sized.frames_to;
    from = l;
  }

  -- the first page has its frame, and the others can get theirs
  module _ (q : ℕ) (qv : q % 2 ≡ 1) (q10 : q < 1024) (b : List ℕ) (lb : length b ≡ 4096) where
    pub first_fresh : PageFresh s (fresh_page s r p q b) r p q (lowest s.fmarks) b
    first_fresh =
        fresh_page_lem s c.sized c.tree r p c.root h few (sym (ap (resolve s r) (add-zero p)) ∙ c.unmapped 0 (omega arith)) (omega (arith, c.frames)) q qv q10 b lb

    pub fresh_step : missing s r p (suc n) ≡ lacks s r p + missing (fresh_page s r p q b) r (suc p) n
    fresh_step =
        let g = first_fresh in
        missing_step s (fresh_page s r p q b) r p (record { group = g.group; block = g.block; rest = λ d x l o e. g.rest r d x c.root l (omega arith) (λ _ y. e y) }) n
        (c.range n (omega arith))

    pub others_may : Growable n (fresh_page s r p q b) r (suc p)
    unfolding top part
    others_may =
        let g = first_fresh in
        record {
          sized = g.sized;
          tree = g.tree;
          root = (g.roots r).0 c.root;
          range = λ i l. omega (arith, c.range (suc i) (omega arith));
          unmapped = λ i l.
              g.rest r 2 (suc p + i) c.root (omega (arith, c.range (suc i) (omega arith))) (omega arith) (λ _ e. omega arith)
              ∙ ap (resolve s r) (suc-add p i ∙ sym (add-suc p i)) ∙ c.unmapped (suc i) (omega arith);
          frames = omega (arith, c.frames, g.free);
          tables = omega (arith, c.tables, g.tables, fresh_step);
        }
