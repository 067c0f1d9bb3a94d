-- The loop that gives a child the pages of its parent: what holds before each page, at the start and after it. Assumes nothing.
use mathlib.Core.Path.{◌≡◌, sym, ap, ◌∙◌, subst, subst₂}
use mathlib.Core.List.{List}
use Prim.Native.Nat.{ℕ, suc, ◌+◌, ◌-◌, ◌*◌, ◌/◌, ◌≤◌, ◌<◌}
use native.Mathlib.Nat.{zero-add}
use native.Mathlib.Numerals.{add-one}
use native.Mathlib.Omega.{arith}
use lib.Bits.{bit_and, and_mask}
use lib.ListN.{length, take, drop}
use Rattle.store.specs.Store.{Store, store_of, mark}
use Rattle.store.specs.Count.{lowest}
use Rattle.store.specs.Walk.{slot_word, slot, entry_at, resolve}
use Rattle.store.proofs.Scans.{in_range}
use Rattle.store.proofs.Tree.{tree_of}
use Rattle.enter.proofs.Hang.{lowest_free}
use Rattle.unmap.specs.Leave.{PoolFrame}
use Rattle.fresh.specs.Fill.{framed}
use Rattle.fresh.specs.Fresh.{fresh_page, FrameFits, FrameEntered}
use Rattle.fresh.specs.Grown.{FrameKept}
use Rattle.fresh.proofs.FreshPages.{Growable, growable, first_fresh}
use Rattle.fresh.proofs.GrownLaws.{Fillable}
use Rattle.fresh.proofs.GrowLoop as loop
use Rattle.child.specs.Child.{page_flags, page_bytes, ChildReady}
use Rattle.copies.proofs.BytesLaws.{bytes_length}
use Rattle.child.proofs.PageBytes.{page_bytes_lem}
use Rattle.copies.proofs.OneOwner.{frame_mark}
use Rattle.child.proofs.Spared.{Spared, spared, spared_more}

-- i pages have gone over, s is the store so far, and it has no free frame below a
pub record Copying (s₀ : Store) (parent child size : ℕ) (s : Store) (i a : ℕ) : Type 0 where
  pub growing : loop.Growing s₀ child 0 (size / 4096) (page_flags s₀ parent) (page_bytes s₀ parent) s i a
  pub spared : Spared s₀ parent s

module _ (s₀ : Store) (parent child size : ℕ) (c : ChildReady s₀ parent child size) where
  abbrev q : ℕ → ℕ
  q = page_flags s₀ parent

  abbrev b : ℕ → List ℕ
  b = page_bytes s₀ parent

  -- the child's pages can get fresh frames, and the parent's flags and bytes can be theirs
  pub child_may : Growable (size / 4096) s₀ child 0
  child_may =
      let r = c.at_child in
      growable s₀ child 0 (size / 4096)
      (record { asked = record { at_root = r; pages = omega (arith, c.small) }; ready = c.fresh })

  pub fillable : (x : ℕ) → x < size / 4096 → Fillable (q x) (b x)
  fillable x l = (omega (arith, c.mapped x l), omega arith, bytes_length s₀ parent (4096 * x) 4096)

  -- the frame of a parent's page is in use
  pub in_use : (x : ℕ) (l : x < size / 4096) → 0 < mark s₀.fmarks (c.pool x l).frame
  in_use x l =
      let r = c.at_parent in
      let f = c.pool x l in
      let m = frame_mark s₀ r.sized (tree_of s₀ r.sized r.formed) parent x f.frame r.is_root (omega (arith, c.small)) f.there f.number in
      omega (arith, m)

  pub start : Copying s₀ parent child size s₀ 0 0
  start = record { growing = loop.start s₀ child 0 (size / 4096) q b child_may; spared = spared s₀ parent c.at_parent.is_root }

  -- ---- page i, where the store so far has the words ws, the marks ms and fs and the bytes bs

  module _ (ws ms bs fs : List ℕ) (i a : ℕ) (g : Copying s₀ parent child size (store_of ws ms bs fs) i a) (h : i < size / 4096) where
    abbrev s : Store
    s = store_of ws ms bs fs

    pub fits : FrameFits ws ms fs child i a
    fits = subst (λ (x : ℕ). FrameFits ws ms fs child x a) (zero-add i) (loop.fits s₀ child 0 (size / 4096) q b s i a g.growing h)

    -- e is the parent's word
    module _ (m e : ℕ) (em : m ≡ slot (slot_word ws) parent 2 i) (ee : e ≡ slot_word ws m) where
      word : e ≡ resolve s₀ parent i
      unfolding entry_at
      word = ee ∙ ap (slot_word ws) em ∙ g.spared.pages i (omega (arith, c.small))

      flags_of : bit_and e 0x3FF ≡ page_flags s₀ parent i
      flags_of = omega (arith, and_mask e 10, word)

      pub flags_fit : bit_and e 0x3FF < 1024
      flags_fit = omega (arith, flags_of)

      abbrev pf : PoolFrame s₀ (resolve s₀ parent i)
      pf = c.pool i h

      pub in_pool_lem : 0x11_0000 ≤ e / 1024
      in_pool_lem = omega (arith, word, pf.number)

      frame_is : e / 1024 - 0x11_0000 ≡ pf.frame
      frame_is = omega (arith, word, pf.number)

      kept : FrameKept s₀ pf.frame s
      kept = g.spared.taken pf.frame (in_use i h)

      there : pf.frame < length fs
      there = in_range fs pf.frame (λ z. omega (arith, kept.mark, in_use i h))

      module _ (f : ℕ) (ef : f ≡ lowest fs) where
        frame_there : f < length fs
        frame_there = omega (arith, ef, lowest_free fs (omega (arith, g.growing.ready.frames)))

        pub frame_small : f < 4096
        frame_small = omega (arith, frame_there, g.growing.ready.sized.frames_to)

        pub may_copy : (4096 * (e / 1024 - 0x11_0000) + 4096 ≤ length bs) × (4096 * f + 4096 ≤ length bs)
        may_copy = let z = g.growing.ready.sized.bytes in (omega (arith, z, there, frame_is), omega (arith, z, frame_there))

      copied : take 4096 (drop (4096 * (e / 1024 - 0x11_0000)) bs) ≡ b i
      copied =
          ap (λ (x : ℕ). take 4096 (drop (4096 * x) bs)) frame_is
          ∙ page_bytes_lem s₀ parent i pf.frame pf.number bs (omega (arith, g.growing.ready.sized.bytes, there)) kept.bytes

      pub after : (f : ℕ) (ws' ms' fs' bs' : List ℕ) → FrameEntered ws ms fs child i (bit_and e 0x3FF) f ws' ms' fs'
          → bs' ≡ framed bs f (take 4096 (drop (4096 * (e / 1024 - 0x11_0000)) bs)) → Copying s₀ parent child size (store_of ws' ms' bs' fs') (i + 1) (f + 1)
      after f ws' ms' fs' bs' en eb =
          let j : 0 + i ≡ i = zero-add i in
          let ok : Fillable (q (0 + i)) (b (0 + i)) = subst (λ (x : ℕ). Fillable (q x) (b x)) (sym j) (fillable i h) in
          let k : size / 4096 - i ≡ suc (size / 4096 - (i + 1)) = omega arith in
          let more : Growable (suc (size / 4096 - (i + 1))) s child (0 + i) = subst (λ (x : ℕ). Growable x s child (0 + i)) k g.growing.ready in
          let s₁ : Store = fresh_page s child (0 + i) (q (0 + i)) (b (0 + i)) in
          let now : store_of ws' ms' bs' fs' ≡ s₁ =
          ap (λ (y : List ℕ). store_of ws' ms' y fs') (eb ∙ ap (framed bs f) copied) ∙ en.store bs (b i) ∙ ap (λ (y : ℕ). fresh_page s child i y (b i)) flags_of
          ∙ ap (λ (x : ℕ). fresh_page s child x (q x) (b x)) (sym j) in
          let from : suc (lowest fs) ≡ f + 1 = ap suc (sym en.frame) ∙ sym (add-one f) in
          subst₂ (λ (y : Store) (x : ℕ). Copying s₀ parent child size y (i + 1) x) (sym now) from
          (record {
            growing = loop.next s₀ child 0 (size / 4096) q b s i a g.growing h ok.0 ok.1 ok.2;
            spared = spared_more s₀ parent s s₁ child (0 + i) (q (0 + i)) (lowest fs) (b (0 + i)) g.spared c.apart g.growing.ready.sized ok.2
                (first_fresh (size / 4096 - (i + 1)) s child (0 + i) more (q (0 + i)) ok.0 ok.1 (b (0 + i)) ok.2);
          })
