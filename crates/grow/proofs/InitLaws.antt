-- What each way out of `uvm_init` says, that two answers to one call are the same, and what a success means. Assumes nothing.
use mathlib.Core.Path.{◌≡◌, refl, sym, ap, ◌∙◌, subst}
use mathlib.Core.Logic.{by_cases}
use mathlib.Core.List.{List}
use Prim.Native.Nat.{ℕ, ◌+◌, ◌-◌, ◌*◌, ◌≤◌, ◌<◌}
use native.Mathlib.Decide.{dec_lt}
use native.Mathlib.Omega.{arith}
use lib.ListN.{length, replicate, length-append, length-replicate}
use borrow.Rule.Slice.PartMut.{put_mid}
use Rattle.std.specs.Prelude.{Result, Ok}
use Rattle.refusal.specs.declared.Refusal.{Refusal}
use Rattle.store.specs.Store.{Store, store_of}
use Rattle.store.specs.Count.{lowest}
use Rattle.store.proofs.Outcomes.{one_outcome}
use Rattle.enter.proofs.Hang.{lowest_free}
use Rattle.well_formed.specs.Root.{Asked}
use Rattle.fresh.specs.Fresh.{fresh_pages, FrameFits, FrameEntered}
use Rattle.grow.specs.Init.{InitReason, too_long, page, InitReady, padded, InitDone, Init}
use Rattle.fresh.specs.Grown.{Grown}
use Rattle.fresh.proofs.FrameCode.{put_frame}
use Rattle.fresh.proofs.FreshPages.{Growable, growable, frame_fits}
use Rattle.grow.proofs.InitReasons.{asked, clear}
use Rattle.fresh.proofs.GrownLaws.{pages_grown, growable_where}

-- the source and the zeros after it fill a frame
pub padded_length : (src : List ℕ) → length src < 4096 → length (padded src) ≡ 4096
padded_length src h = omega (arith, length-append src (replicate (4096 - length src) 0), length-replicate {A = ℕ} (4096 - length src) 0)

module _ (s : Store) (root : ℕ) (src : List ℕ) where
  module _ (f : InitReady s root src) where
    can : Growable 1 s root 0
    can = growable s root 0 1 (record { asked = asked s root src f.at_root; ready = f.page })

    -- what the code of page 0 asks: its frame can be entered, and lies within the bytes
    pub may_enter : FrameFits s.words s.tmarks s.fmarks root 0 0
    may_enter = frame_fits 0 s root 0 can 0 (omega arith)

    pub frame_in : (g : ℕ) → g ≡ lowest s.fmarks → 4096 * g + 4096 ≤ length s.bytes
    frame_in g e = omega (arith, (lowest_free s.fmarks (omega (arith, can.frames))).0, can.sized.bytes)

    pub done : (g : ℕ) (ws' ms' fs' x : List ℕ) → FrameEntered s.words s.tmarks s.fmarks root 0 31 g ws' ms' fs' → x ≡ padded src
        → Init s root src (Ok 0) (store_of ws' ms' (put_mid (4096 * g) (4096 * g + 4096 - 4096 * g) s.bytes x) fs')
    done g ws' ms' fs' x en e =
        (clear s root src f, (refl, ap (λ (y : List ℕ). store_of ws' ms' y fs') (put_frame s.bytes g x (padded src) e) ∙ en.store s.bytes (padded src)))

  -- two answers to one call are the same, and so are the stores
  pub one_init : (a a' : Result ℕ Refusal) (t t' : Store) → Init s root src a t → Init s root src a' t' → (a ≡ a') × (t ≡ t')
  one_init = one_outcome (InitReason s root src) (InitDone s root src) (λ v v' t t' x y. (x.0 ∙ sym y.0, x.1 ∙ sym y.1)) s

  -- what a success means, where page 0 may be asked about: it has a frame that holds the source and then zeros
  pub init_grown : (v : ℕ) (s' : Store) → Asked s root 0 1 → Init s root src (Ok v) s' → Grown s root 0 1 (λ _. 31) (λ _. padded src) s'
  unfolding fresh_pages
  init_grown v s' a u =
      let short : length src < 4096 = by_cases (dec_lt (length src) 4096) (λ l. l) (λ l. absurd (u.0 5 (too_long (omega arith)))) in
      subst (Grown s root 0 1 (λ _. 31) (λ _. padded src)) (sym u.1.1)
      (pages_grown (λ _. 31) (λ _. padded src) 1 s root 0 (λ x l h. (refl, omega arith, padded_length src short)) (growable_where s root 0 1 a (λ k x. u.0 k (page x))))
