-- The tables that a range of pages lacks, group by group. Assumes nothing.
use mathlib.Core.Path.{◌≡◌, refl, sym, ap, ap₂, ◌∙◌}
use mathlib.Core.List.{List}
use Prim.Native.Nat.{ℕ, zero, suc, ◌+◌, ◌-◌, ◌*◌, ◌/◌, ◌%◌, ◌^◌, ◌≤◌, ◌<◌, min, max}
use native.Mathlib.Omega.{arith}
use Rattle.store.specs.Count.{is_zero, zeros}
use Rattle.store.specs.Walk.{slot_word, slot_in, slot}
use Rattle.store.proofs.Free.{is_zero_pos}
use Rattle.walk.specs.Missing.{span, entry_in, missing_in, entry_under}
use Rattle.store.proofs.Free.{zeros_le}
use Rattle.store.proofs.Parts.{part_none, part_next, part_join}
use Rattle.walk.proofs.Spans.{zeros_same, zeros_all}

-- there is no slot 0 and no slot 1
pub slot_none : (ws : List ℕ) (m : ℕ) → m < 2 → slot_word ws m ≡ 0
unfolding slot_word
slot_none ws zero h = refl
slot_none ws (suc zero) h = refl
slot_none ws (suc (suc m)) h = absurd (omega arith)

-- under an entry that is 0 nothing is there
pub under_none : (ws : List ℕ) (e x : ℕ) → e ≡ 0 → entry_under ws e x ≡ 0
under_none ws e x z = slot_none ws (slot_in e (x % 512)) (omega arith)

-- top is the root's entry of group g, and the blocks from a up to e lie in it
module _ (ws : List ℕ) (r g top : ℕ) (read : top ≡ slot_word ws (512 * r + g + 2)) where
  pub block_entry : (b : ℕ) → 512 * g ≤ b → b < 512 * g + 512 → entry_in ws r 1 b ≡ entry_under ws top b
  unfolding slot
  block_entry b l h =
      let e : b / 512 ≡ g = omega arith in
      ap (λ (x : ℕ). slot_word ws (slot_in x (b % 512))) (ap (λ (x : ℕ). slot_word ws (512 * r + x + 2)) e ∙ sym read)

  module _ (a e : ℕ) (l : 512 * g ≤ a) (h : e ≤ 512 * g + 512) where
    blocks : zeros (entry_in ws r 1) (e - a) a ≡ zeros (entry_under ws top) (e - a) a
    blocks = zeros_same (entry_under ws top) (entry_in ws r 1) (e - a) a (λ b p q. block_entry b (omega arith) (omega arith))

    -- where the group has no table, none of its blocks has
    pub group_none : top ≡ 0 → 1 + (e - a) ≡ is_zero (entry_in ws r 0 g) + zeros (entry_in ws r 1) (e - a) a
    unfolding slot
    group_none z = omega (arith, blocks, zeros_all (entry_under ws top) (e - a) a (λ i p. under_none ws top (a + i) z), ap is_zero (sym read ∙ z))

    pub group_some : (n : ℕ) → (top ≡ 0 → ⊥) → n ≡ zeros (entry_under ws top) (e - a) a → n ≡ is_zero (entry_in ws r 0 g) + zeros (entry_in ws r 1) (e - a) a
    unfolding slot
    group_some n some q = omega (arith, blocks, is_zero_pos (slot_word ws (512 * r + g + 2)) (λ z. some (read ∙ z)))

-- ---- the groups of a range in turn

-- the first block from p on that lies in no group below g, or stop where there is none before it
abbrev pub block_from : ℕ → ℕ → ℕ → ℕ
block_from p stop g = max (p / 512) (min stop (512 * g))

-- of the pages from p on, up to the block stop - 1, those of the groups below g are counted
abbrev pub Counted : List ℕ → ℕ → ℕ → ℕ → ℕ → ℕ → Type 0
Counted ws r p stop g n = n ≡ zeros (entry_in ws r 0) (g - p / 512 / 512) (p / 512 / 512) + zeros (entry_in ws r 1) (block_from p stop g - p / 512) (p / 512)

module _ (ws : List ℕ) (r p stop : ℕ) where
  pub counted_none : p / 512 < stop → Counted ws r p stop (p / 512 / 512) 0
  counted_none l =
      let e : block_from p stop (p / 512 / 512) ≡ p / 512 = omega arith in
      rw e (omega (arith, part_none (entry_in ws r 0) (p / 512 / 512), part_none (entry_in ws r 1) (p / 512)))

  -- the blocks from b up to e are those of group g
  module _ (g b e : ℕ) (l : p / 512 / 512 ≤ g) (h : 512 * g < stop) (some : p / 512 < stop) (here : b ≡ block_from p stop g) (there : e ≡ min (512 * g + 512) stop) where
    module _ (n m : ℕ) (c : Counted ws r p stop g n) (k : m ≡ is_zero (entry_in ws r 0 g) + zeros (entry_in ws r 1) (e - b) b) where
      pub counted_more : Counted ws r p stop (g + 1) (n + m)
      counted_more =
          let y : block_from p stop (g + 1) ≡ e = omega arith in
          rw y (
          omega (
            arith,
            rw (sym here) at c,
            part_next (entry_in ws r 0) (p / 512 / 512) g l,
            part_join (entry_in ws r 1) (p / 512) b e (omega arith) (omega arith),
          )
          )

      pub counted_few : stop ≤ 2 ^ 26 → n + m < 2 ^ 64
      counted_few q =
          let y : block_from p stop (g + 1) ≡ e = omega arith in
          omega (
            arith,
            rw y at counted_more,
            zeros_le (entry_in ws r 0) (g + 1 - p / 512 / 512) (p / 512 / 512),
            zeros_le (entry_in ws r 1) (e - p / 512) (p / 512),
          )

-- the count over a range that is not empty, by the ends of its groups and blocks
pub missing_parts : (ws : List ℕ) (r p e g b : ℕ) → p < e → g ≡ (e - 1) / 512 / 512 + 1 → b ≡ (e - 1) / 512 + 1
    → missing_in ws r p (e - p) ≡ zeros (entry_in ws r 0) (g - p / 512 / 512) (p / 512 / 512) + zeros (entry_in ws r 1) (b - p / 512) (p / 512)
unfolding missing_in span
missing_parts ws r p e g b l h k =
    let m : e - p ≡ suc (e - 1 - p) = omega arith in
    let u : suc ((p + (e - 1 - p)) / 512 / 512) ≡ g = omega arith in
    let v : suc ((p + (e - 1 - p)) / 512) ≡ b = omega arith in
    ap (missing_in ws r p) m
    ∙ ap₂ (λ (x y : ℕ). zeros (entry_in ws r 0) (x - p / 512 / 512) (p / 512 / 512) + zeros (entry_in ws r 1) (y - p / 512) (p / 512)) u v

-- all are counted where no group is left
pub counted_all : (ws : List ℕ) (r p e g n : ℕ) → p < e → g ≡ (e - 1) / 512 / 512 + 1 → Counted ws r p ((e - 1) / 512 + 1) g n → n ≡ missing_in ws r p (e - p)
counted_all ws r p e g n l h c =
    let b : block_from p ((e - 1) / 512 + 1) g ≡ (e - 1) / 512 + 1 = omega arith in
    rw b at c ∙ sym (missing_parts ws r p e g ((e - 1) / 512 + 1) l h (omega arith))

pub missing_empty : (ws : List ℕ) (r p e : ℕ) → e ≤ p → missing_in ws r p (e - p) ≡ 0
unfolding missing_in
missing_empty ws r p e l = let z : e - p ≡ 0 = omega arith in ap (missing_in ws r p) z
