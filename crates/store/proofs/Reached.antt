-- In a well-formed store the free tables and those reached from the roots add up to T, and the frames to F; and each is free or
-- is met once. Assumes nothing.
use mathlib.Core.Path.{◌≡◌, refl, sym, ap, ◌∙◌}
use mathlib.Core.Logic.{◌⊎◌, inl, inr}
use Prim.Native.Nat.{ℕ, zero, suc, ◌+◌, ◌-◌, ◌*◌, ◌/◌, ◌≤◌, ◌<◌}
use native.Mathlib.Nat.{mul-one, mul-add, add-mul}
use native.Mathlib.Omega.{arith}
use native.Mathlib.Decide.{ℕ_discrete}
use lib.ListN.{length}
use borrow.Author.Tests.{lt-ltb, le-ltb}
use Rattle.store.specs.Sum.{sum, same}
use Rattle.store.specs.Store.{Store, Sized, word, mark, pointer_to, frame_no, pool_no}
use Rattle.store.specs.Level.{home, level}
use Rattle.store.specs.Count.{is_zero, free_tables, free_frames}
use Rattle.store.specs.WellFormed.{Inner, Points, Outside, Held, Leaf, Named, WellFormed}
use Rattle.store.specs.Reached.{child, tables_below, in_pool, frames_below, reached_tables, reached_frames, meets_table, meets_frame, table_met, frame_met}
use Rattle.store.proofs.Sums.{same_yes, same_no, same_times, same_none, sum_cong, sum_add}
use Rattle.store.proofs.Taken.{taken, free_or_taken, free_taken, taken_times, taken_factor}
use Rattle.store.proofs.Tally.{picked, marks_one, marks_none, counted}
use Rattle.store.proofs.Levels.{three, level_free, level_root, root_level}
use Rattle.store.proofs.Scans.{in_range}
use Rattle.store.proofs.Free.{is_zero_pos}

-- ---- words

child_zero : (f : ℕ → ℕ) (e : ℕ) → e ≡ 0 → child f e ≡ 0
unfolding child
child_zero f zero p = refl
child_zero f (suc e) p = absurd (omega arith)

child_at : (f : ℕ → ℕ) (e t : ℕ) → e ≡ pointer_to t → child f e ≡ f t
unfolding child
child_at f zero t p = absurd (omega arith)
child_at f (suc e) t p = ap f (omega arith)

inner : (l k : ℕ) → l < 2 → k ≡ suc l → Inner k
inner zero k h e = inr e
inner (suc zero) k h e = inl e
inner (suc (suc l)) k h e = absurd (omega arith)

-- 1 for level 2, 1 or 0, else 0
levels : ℕ → ℕ
levels l = same l 2 + (same l 1 + same l 0)

levels_none : levels 3 ≡ 0
unfolding levels same
levels_none = refl

levels_one : (l : ℕ) → l < 3 → levels l ≡ 1
unfolding levels same
levels_one zero h = refl
levels_one (suc zero) h = refl
levels_one (suc (suc zero)) h = refl
levels_one (suc (suc (suc l))) h = absurd (omega arith)

-- a word that names no pool frame, and one that names pool frame f
pool_out : (n e : ℕ) → n ≤ 4096 → Outside (frame_no e) → in_pool n e ≡ 0
unfolding in_pool
pool_out n e l (inl h) = rw (lt-ltb (frame_no e) (pool_no 0) (omega arith))
pool_out n e l (inr h) = rw (le-ltb (frame_no e) (pool_no 0) (omega arith), le-ltb (frame_no e) (pool_no n) (omega arith))

pool_in : (n e f : ℕ) → f < n → frame_no e ≡ pool_no f → in_pool n e ≡ 1
unfolding in_pool
pool_in n e f h p = rw (le-ltb (frame_no e) (pool_no 0) (omega arith), lt-ltb (frame_no e) (pool_no n) (omega arith))

-- two pool frames have one number where they are one
same_pool : (i f : ℕ) → same (pool_no i) (pool_no f) ≡ same i f
same_pool i f = go (ℕ_discrete i f)
  where
    go : Dec (i ≡ f) → same (pool_no i) (pool_no f) ≡ same i f
    go (yes e) = same_yes (pool_no i) (pool_no f) (omega arith) ∙ sym (same_yes i f e)
    go (no ne) = same_no (pool_no i) (pool_no f) (λ p. ne (omega arith)) ∙ sym (same_no i f ne)

-- a factor `same` that is not 0
same_factor : (a b c : ℕ) → 0 < same a b * c → a ≡ b
same_factor a b c h = go (ℕ_discrete a b)
  where
    go : Dec (a ≡ b) → a ≡ b
    go (yes e) = e
    go (no ne) = absurd (omega (arith, same_none a b c ne))

-- ---- a store

-- T and F
abbrev tables : Store → ℕ
tables s = length s.tmarks

abbrev frames : Store → ℕ
frames s = length s.fmarks

-- the marks of table t and of frame f, word w, and the level of table t
abbrev tmark : Store → ℕ → ℕ
tmark s t = mark s.tmarks t

abbrev fmark : Store → ℕ → ℕ
fmark s f = mark s.fmarks f

abbrev word_at : Store → ℕ → ℕ
word_at s w = word s.words w

abbrev level_of : Store → ℕ → ℕ
level_of s t = level s.tmarks t

-- 1 where table t has level l, else 0
abbrev at_level : Store → ℕ → ℕ → ℕ
at_level s l t = same (level_of s t) l

-- ---- tables

module _ (s : Store) (z : Sized s) (wf : WellFormed s) where
  -- W2 of the word w that the mark of table t names
  pointed : (t w : ℕ) → t < tables s → tmark s t ≡ w + 2 → (word_at s w ≡ pointer_to t) × (level_of s (w / 512) ≡ suc (level_of s t))
  pointed t w l e =
      let p = wf.w2 t l (omega arith) in
      let q : tmark s t - 2 ≡ w = omega arith in
      (rw q at p.word, rw q at p.less)

  -- a table of level 1 or 0 has a mark that names a word
  low_mark : (t : ℕ) → level_of s t < 2 → 2 ≤ tmark s t
  low_mark t h = go (three (tmark s t))
    where
      go : (tmark s t ≡ 0) ⊎ (tmark s t ≡ 1) ⊎ (2 ≤ tmark s t) → 2 ≤ tmark s t
      go (inl e) = absurd (omega (arith, level_free s.tmarks t e))
      go (inr (inl e)) = absurd (omega (arith, level_root s.tmarks t e))
      go (inr (inr m)) = m

  mark_bound : (t : ℕ) → t < tables s → 2 ≤ tmark s t → tmark s t < tables s * 512 + 2
  mark_bound t l h = omega (arith, in_range s.words (tmark s t - 2) (λ e. omega (arith, (wf.w2 t l h).word)), z.words)

  module _ (l : ℕ) (low : l < 2) (h : ℕ → ℕ) where
    -- a word of a table of level l + 1 counts the table that it points to, which is the one table with its mark
    child_word : (w : ℕ) → w < tables s * 512
        → at_level s (suc l) (w / 512) * child h (word_at s w) ≡ sum (λ t. same (tmark s t) (w + 2) * (at_level s l t * h t)) (tables s)
    child_word w b = go (ℕ_discrete (level_of s (w / 512)) (suc l))
      where
        weight : ℕ → ℕ
        weight t = at_level s l t * h t

        at_word : level_of s (w / 512) ≡ suc l → (word_at s w ≡ 0) ⊎ Points s.words s.tmarks w
            → child h (word_at s w) ≡ sum (λ t. same (tmark s t) (w + 2) * weight t) (tables s)
        at_word e (inl o) =
            child_zero h (word_at s w) o
            ∙ sym (marks_none (tmark s) weight (tables s) w (λ u m f. absurd (omega (arith, (pointed u w m f).0))))
        at_word e (inr p) =
            child_at h (word_at s w) p.to p.word
            ∙ sym (same_times (level_of s p.to) l (h p.to) (omega (arith, (pointed p.to w p.there p.mark).1)))
            ∙ sym (marks_one (tmark s) weight (tables s) w p.to p.there p.mark (λ u m f. omega (arith, (pointed u w m f).0, p.word)))

        go : Dec (level_of s (w / 512) ≡ suc l)
            → at_level s (suc l) (w / 512) * child h (word_at s w) ≡ sum (λ t. same (tmark s t) (w + 2) * weight t) (tables s)
        go (yes e) = same_times (level_of s (w / 512)) (suc l) (child h (word_at s w)) e ∙ at_word e (wf.w3 w (omega (arith, z.words)) (inner l _ low e))
        go (no ne) =
            same_none (level_of s (w / 512)) (suc l) (child h (word_at s w)) ne
            ∙ sym (marks_none (tmark s) weight (tables s) w (λ u m f. same_none (level_of s u) l (h u) (λ q. ne ((pointed u w m f).1 ∙ ap suc q))))

    -- what the words of level l + 1 count of the tables that they point to is what the tables of level l count
    children : sum (λ t. at_level s (suc l) t * sum (λ i. child h (word_at s (512 * t + i))) 512) (tables s)
        ≡ sum (λ t. at_level s l t * h t) (tables s)
    children =
        counted (at_level s (suc l)) (λ w. child h (word_at s w)) (tmark s) (λ t. at_level s l t * h t) (tables s) (tables s)
        (λ t b p. let e = same_factor (level_of s t) l (h t) p in let m = low_mark t (omega arith) in (m, mark_bound t b m)) child_word

  -- roots are the tables of level 2
  roots : (t : ℕ) → same (tmark s t) 1 ≡ at_level s 2 t
  roots t = go (ℕ_discrete (tmark s t) 1)
    where
      go : Dec (tmark s t ≡ 1) → same (tmark s t) 1 ≡ at_level s 2 t
      go (yes e) = same_yes _ 1 e ∙ sym (same_yes _ 2 (level_root s.tmarks t e))
      go (no ne) = same_no _ 1 ne ∙ sym (same_no _ 2 (λ e. ne (root_level s.tmarks t e)))

  -- a sum over the roots, by levels
  roots_sum : (h : ℕ → ℕ) → sum (λ t. same (tmark s t) 1 * h t) (tables s) ≡ sum (λ t. at_level s 2 t * h t) (tables s)
  roots_sum h =
      sum_cong (λ t. same (tmark s t) 1 * h t) (λ t. at_level s 2 t * h t) (tables s) (λ t l. ap (λ (x : ℕ). x * h t) (roots t))

  -- a table is taken exactly where it has a level
  taken_levels : (t : ℕ) → t < tables s → levels (level_of s t) ≡ taken (tmark s t)
  unfolding taken
  taken_levels t l = go (three (tmark s t))
    where
      go : (tmark s t ≡ 0) ⊎ (tmark s t ≡ 1) ⊎ (2 ≤ tmark s t) → levels (level_of s t) ≡ taken (tmark s t)
      go (inl e) = rw (e, level_free s.tmarks t e) levels_none
      go (inr (inl e)) = rw (e, level_root s.tmarks t e) (levels_one 2 (omega arith))
      go (inr (inr m)) = let p = wf.w2 t l m in levels_one _ (below p.above p.less) ∙ omega (arith, free_or_taken (tmark s t), is_zero_pos (tmark s t) (λ e. omega arith))
        where
          below : Inner (level_of s (home (tmark s t))) → level_of s (home (tmark s t)) ≡ suc (level_of s t) → level_of s t < 3
          below (inl e) f = omega arith
          below (inr e) f = omega arith

  -- the taken tables of weight g, level by level
  levels_sum : (g : ℕ → ℕ) → sum (λ t. at_level s 2 t * g t) (tables s) + (sum (λ t. at_level s 1 t * g t) (tables s) + sum (λ t. at_level s 0 t * g t) (tables s)) ≡ sum (λ t. taken (tmark s t) * g t) (tables s)
  unfolding levels
  levels_sum g =
      omega (arith, sum_add (at 2) (λ t. at 1 t + at 0 t) (tables s), sum_add (at 1) (at 0) (tables s))
      ∙ sum_cong (λ t. at 2 t + (at 1 t + at 0 t)) (λ t. taken (tmark s t) * g t) (tables s) all
    where
      at : ℕ → ℕ → ℕ
      at l t = at_level s l t * g t

      all : (t : ℕ) → t < tables s → at 2 t + (at 1 t + at 0 t) ≡ taken (tmark s t) * g t
      all t l = rw (← taken_levels t l, add-mul, add-mul)

  -- a walk b that counts g of each table: from the roots, it counts g of each taken table
  module _ (g : ℕ → ℕ) (b : ℕ → ℕ → ℕ) (base : (t : ℕ) → b 0 t ≡ g t) (step : (l t : ℕ) → b (suc l) t ≡ g t + sum (λ i. child (b l) (word_at s (512 * t + i))) 512) where
    walk_base : sum (λ t. at_level s 0 t * b 0 t) (tables s) ≡ sum (λ t. at_level s 0 t * g t) (tables s)
    walk_base = sum_cong (λ t. at_level s 0 t * b 0 t) (λ t. at_level s 0 t * g t) (tables s) (λ t h. ap (λ (x : ℕ). at_level s 0 t * x) (base t))

    walk_step : (l : ℕ) → l < 2
        → sum (λ t. at_level s (suc l) t * b (suc l) t) (tables s) ≡ sum (λ t. at_level s (suc l) t * g t) (tables s) + sum (λ t. at_level s l t * b l t) (tables s)
    walk_step l low =
        sum_cong (λ t. at_level s (suc l) t * b (suc l) t) (λ t. at_level s (suc l) t * g t + at_level s (suc l) t * below t) (tables s)
        (λ t h. ap (λ (x : ℕ). at_level s (suc l) t * x) (step l t) ∙ mul-add (at_level s (suc l) t) (g t) (below t))
        ∙ sum_add (λ t. at_level s (suc l) t * g t) (λ t. at_level s (suc l) t * below t) (tables s)
        ∙ ap (λ (x : ℕ). sum (λ t. at_level s (suc l) t * g t) (tables s) + x) (children l low (b l))
      where
        below : ℕ → ℕ
        below t = sum (λ i. child (b l) (word_at s (512 * t + i))) 512

    walked : sum (λ t. same (tmark s t) 1 * b 2 t) (tables s) ≡ sum (λ t. taken (tmark s t) * g t) (tables s)
    walked = roots_sum (b 2) ∙ omega (arith, walk_step 1 (omega arith), walk_step 0 (omega arith), walk_base) ∙ levels_sum g

  tables_reached : reached_tables s ≡ sum (λ t. taken (tmark s t)) (tables s)
  unfolding tables_below
  tables_reached =
      walked (λ t. 1) (tables_below s.words) (λ t. refl) (λ l t. refl)
      ∙ sum_cong (λ t. taken (tmark s t) * 1) (λ t. taken (tmark s t)) (tables s) (λ t l. mul-one (taken (tmark s t)))

  pub tables_add_up : free_tables s + reached_tables s ≡ length s.tmarks
  tables_add_up = rw tables_reached (free_taken s.tmarks)

  table_met_lem : (u : ℕ) → u < tables s → table_met s u ≡ taken (tmark s u)
  unfolding meets_table
  table_met_lem u l = walked (λ t. same t u) (meets_table s.words u) (λ t. refl) (λ l t. refl) ∙ picked (λ t. taken (tmark s t)) (tables s) u l

  -- a table is free, or the walk meets it once
  pub table_once : (u : ℕ) → u < length s.tmarks → is_zero (mark s.tmarks u) + table_met s u ≡ 1
  table_once u l = rw (table_met_lem u l) (free_or_taken (tmark s u))

  -- ---- frames

  -- W5 of the word w that the mark of frame f names
  named : (f w : ℕ) → f < frames s → fmark s f ≡ w + 2 → (frame_no (word_at s w) ≡ pool_no f) × (level_of s (w / 512) ≡ 0)
  named f w l e = go (wf.w5 f l)
    where
      go : (fmark s f ≡ 0) ⊎ Named s.words s.tmarks s.fmarks f → (frame_no (word_at s w) ≡ pool_no f) × (level_of s (w / 512) ≡ 0)
      go (inl o) = absurd (omega arith)
      go (inr p) = let q : fmark s f - 2 ≡ w = omega arith in (rw q at p.names, rw q at p.level)

  frame_bound : (f : ℕ) → f < frames s → (fmark s f ≡ 0 → ⊥) → (2 ≤ fmark s f) × (fmark s f < tables s * 512 + 2)
  frame_bound f l h = go (wf.w5 f l)
    where
      go : (fmark s f ≡ 0) ⊎ Named s.words s.tmarks s.fmarks f → (2 ≤ fmark s f) × (fmark s f < tables s * 512 + 2)
      go (inl o) = absurd (h o)
      go (inr p) = (p.from_two, omega (arith, in_range s.words (fmark s f - 2) (λ e. omega (arith, p.names)), z.words, p.from_two))

  -- g of a word that names pool frame f is v f, and 0 outside the held window
  module _ (g v : ℕ → ℕ) (out : (e : ℕ) → Outside (frame_no e) → g e ≡ 0) (at : (e f : ℕ) → f < frames s → frame_no e ≡ pool_no f → g e ≡ v f) where
    -- a word of level 0 counts the pool frame that it names, which is the one frame with its mark
    frame_word : (w : ℕ) → w < tables s * 512
        → at_level s 0 (w / 512) * g (word_at s w) ≡ sum (λ f. same (fmark s f) (w + 2) * (taken (fmark s f) * v f)) (frames s)
    frame_word w b = go (ℕ_discrete (level_of s (w / 512)) 0)
      where
        weight : ℕ → ℕ
        weight f = taken (fmark s f) * v f

        total : ℕ
        total = sum (λ f. same (fmark s f) (w + 2) * weight f) (frames s)

        none : ((f : ℕ) → f < frames s → fmark s f ≡ w + 2 → ⊥) → 0 ≡ total
        none h = sym (marks_none (fmark s) weight (frames s) w (λ f l e. absurd (h f l e)))

        away : Outside (frame_no (word_at s w)) → (f : ℕ) → f < frames s → fmark s f ≡ w + 2 → ⊥
        away (inl o) f l e = omega (arith, (named f w l e).0)
        away (inr o) f l e = omega (arith, (named f w l e).0, z.frames_to)

        at_frame : Outside (frame_no (word_at s w)) ⊎ Held s.fmarks (frame_no (word_at s w)) w → g (word_at s w) ≡ total
        at_frame (inl o) = out (word_at s w) o ∙ none (away o)
        at_frame (inr p) =
            at (word_at s w) p.frame p.there p.number
            ∙ sym (taken_times (fmark s p.frame) (v p.frame) (λ e. omega (arith, p.mark)))
            ∙ sym (marks_one (fmark s) weight (frames s) w p.frame p.there p.mark (λ f l e. omega (arith, (named f w l e).0, p.number)))

        at_word : (word_at s w ≡ 0) ⊎ Leaf s.words s.fmarks w → g (word_at s w) ≡ total
        at_word (inl o) = at_frame (inl (inl (omega arith)))
        at_word (inr p) = at_frame p.frame

        go : Dec (level_of s (w / 512) ≡ 0) → at_level s 0 (w / 512) * g (word_at s w) ≡ total
        go (yes e) = same_times (level_of s (w / 512)) 0 (g (word_at s w)) e ∙ at_word (wf.w4 w (omega (arith, z.words)) e)
        go (no ne) = same_none (level_of s (w / 512)) 0 (g (word_at s w)) ne ∙ none (λ f l e. ne (named f w l e).1)

    -- a walk b that counts g of each word of level 0: from the roots, it counts v of each taken frame
    named_frames : (b : ℕ → ℕ → ℕ) → ((t : ℕ) → b 0 t ≡ sum (λ i. g (word_at s (512 * t + i))) 512)
        → ((l t : ℕ) → b (suc l) t ≡ sum (λ i. child (b l) (word_at s (512 * t + i))) 512)
        → sum (λ t. same (tmark s t) 1 * b 2 t) (tables s) ≡ sum (λ f. taken (fmark s f) * v f) (frames s)
    named_frames b base step = roots_sum (b 2) ∙ down 1 (omega arith) ∙ down 0 (omega arith) ∙ row 0 (λ t. sum (λ i. g (word_at s (512 * t + i))) 512) base ∙ words
      where
        row : (l : ℕ) (h : ℕ → ℕ) → ((t : ℕ) → b l t ≡ h t) → sum (λ t. at_level s l t * b l t) (tables s) ≡ sum (λ t. at_level s l t * h t) (tables s)
        row l h e = sum_cong (λ t. at_level s l t * b l t) (λ t. at_level s l t * h t) (tables s) (λ t q. ap (λ (x : ℕ). at_level s l t * x) (e t))

        down : (l : ℕ) → l < 2 → sum (λ t. at_level s (suc l) t * b (suc l) t) (tables s) ≡ sum (λ t. at_level s l t * b l t) (tables s)
        down l low = row (suc l) (λ t. sum (λ i. child (b l) (word_at s (512 * t + i))) 512) (step l) ∙ children l low (b l)

        words : sum (λ t. at_level s 0 t * sum (λ i. g (word_at s (512 * t + i))) 512) (tables s) ≡ sum (λ f. taken (fmark s f) * v f) (frames s)
        words =
            counted (at_level s 0) (λ w. g (word_at s w)) (fmark s) (λ f. taken (fmark s f) * v f) (tables s) (frames s)
            (λ f l p. frame_bound f l (taken_factor (fmark s f) (v f) p)) frame_word

  frames_reached : reached_frames s ≡ sum (λ f. taken (fmark s f)) (frames s)
  unfolding frames_below
  frames_reached =
      named_frames (in_pool (frames s)) (λ f. 1) (λ e o. pool_out (frames s) e z.frames_to o) (pool_in (frames s)) (frames_below s.words (frames s)) (λ t. refl) (λ l t. refl)
      ∙ sum_cong (λ f. taken (fmark s f) * 1) (λ f. taken (fmark s f)) (frames s) (λ f l. mul-one (taken (fmark s f)))

  pub frames_add_up : free_frames s + reached_frames s ≡ length s.fmarks
  frames_add_up = rw frames_reached (free_taken s.fmarks)

  frame_met_lem : (f : ℕ) → f < frames s → frame_met s f ≡ taken (fmark s f)
  unfolding meets_frame
  frame_met_lem f l =
      named_frames (λ e. same (frame_no e) (pool_no f)) (λ i. same i f) away (λ e i q p. ap (λ (x : ℕ). same x (pool_no f)) p ∙ same_pool i f) (meets_frame s.words f) (λ t. refl) (λ l t. refl)
      ∙ picked (λ i. taken (fmark s i)) (frames s) f l
    where
      away : (e : ℕ) → Outside (frame_no e) → same (frame_no e) (pool_no f) ≡ 0
      away e (inl o) = same_no (frame_no e) (pool_no f) (λ p. omega arith)
      away e (inr o) = same_no (frame_no e) (pool_no f) (λ p. omega (arith, z.frames_to))

  -- a frame is free, or the walk meets one word that names it, once
  pub frame_once : (f : ℕ) → f < length s.fmarks → is_zero (mark s.fmarks f) + frame_met s f ≡ 1
  frame_once f l = rw (frame_met_lem f l) (free_or_taken (fmark s f))
