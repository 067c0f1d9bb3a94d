-- What a success of `copy_in` and of `copy_out` means, and that one after the other gives the source back. Assumes nothing.
use mathlib.Core.Path.{◌≡◌, refl, sym, ap, ◌∙◌, subst}
use mathlib.Core.Logic.{inl}
use mathlib.Core.List.{List}
use Prim.Native.Nat.{ℕ, ◌+◌, ◌/◌, ◌<◌}
use native.Mathlib.Omega.{arith}
use lib.ListN.{length, get_or}
use lib.Seq.{ext_get_or}
use Rattle.std.specs.Prelude.{Result, Ok, Err}
use Rattle.refusal.specs.declared.Refusal.{Refusal}
use Rattle.store.specs.Store.{Store, store_of}
use Rattle.store.specs.WellFormed.{WellFormed}
use Rattle.store.specs.Walk.{entry_at}
use Rattle.well_formed.specs.Root.{RootReady}
use Rattle.copies.specs.Bytes.{place_at, bytes_at, written}
use Rattle.copies.specs.Needed.{CopyReady}
use Rattle.copies.specs.InOut.{In, Out}
use Rattle.copies.specs.Moved.{MovedIn, MovedOut}
use Rattle.copies.proofs.BytesLaws.{page_room, bytes_length, bytes_get, written_length, written_rest, written_here}
use Rattle.copies.proofs.CopyReasons.{copy_clear, copy_where}
use Rattle.copies.proofs.PlaceLaws.{HasFrame, one_address}

pub in_moved : (s : Store) (root va : ℕ) (dst : List ℕ) (v : ℕ) (dst' : List ℕ) → In s root va dst (Ok v) dst' → MovedIn s root va dst dst'
in_moved s root va dst v dst' u =
    let e : dst' ≡ bytes_at s root va (length dst) = u.1.1 in
    record { size = ap length e ∙ bytes_length s root va (length dst); bytes = λ i l. ap (λ (x : List ℕ). get_or x i 0) e ∙ bytes_get s root va (length dst) i l }

-- the frame bytes of a store are others
abbrev with_bytes : Store → List ℕ → Store
with_bytes s bs = store_of s.words s.tmarks bs s.fmarks

well_kept : (s : Store) (bs : List ℕ) → WellFormed s → WellFormed (with_bytes s bs)
well_kept s bs c = record { w1 = c.w1; w2 = c.w2; w3 = c.w3; w3_root = c.w3_root; w4 = c.w4; w5 = c.w5 }

root_kept : (s : Store) (bs : List ℕ) (root : ℕ) → length bs ≡ length s.bytes → RootReady s root → RootReady (with_bytes s bs) root
root_kept s bs root e f = record {
  sized = record {
    tables_from = f.sized.tables_from;
    tables_to = f.sized.tables_to;
    frames_from = f.sized.frames_from;
    frames_to = f.sized.frames_to;
    words = f.sized.words;
    bytes = e ∙ f.sized.bytes;
  };
  formed = well_kept s bs f.formed;
  is_root = f.is_root;
}

copy_kept : (s : Store) (bs : List ℕ) (root va n : ℕ) → length bs ≡ length s.bytes → CopyReady s root va n → CopyReady (with_bytes s bs) root va n
unfolding entry_at
copy_kept s bs root va n e f = record {
  at_root = root_kept s bs root e f.at_root;
  pages = λ i x. let p = f.pages i x in record { below = p.below; mapped = p.mapped; user = p.user; pool = record { frame = p.pool.frame; there = p.pool.there; number = p.pool.number } };
}

place_kept : (s : Store) (bs : List ℕ) (r a : ℕ) → place_at (with_bytes s bs) r a ≡ place_at s r a
unfolding entry_at
place_kept s bs r a = refl

module _ (s : Store) (root va : ℕ) (src : List ℕ) (f : CopyReady s root va (length src)) where
  abbrev after : List ℕ
  after = written s root va src s.bytes

  as_long : length after ≡ length s.bytes
  as_long = written_length s root va src s.bytes

  has : (i : ℕ) → i < length src → HasFrame s f.at_root.sized f.at_root.formed root ((va + i) / 4096)
  has i l = let p = f.pages i (inl l) in record { is_root = f.at_root.is_root; below = omega (arith, p.below); frame = p.pool }

  apart : (i j : ℕ) → i < j → j < length src → place_at s root (va + i) ≡ place_at s root (va + j) → ⊥
  apart i j l h e =
      omega (arith, (one_address s f.at_root.sized f.at_root.formed root (va + i) root (va + j) (has i (omega arith)) (has j h) e).1)

  here : (i : ℕ) → i < length src → get_or after (place_at s root (va + i)) 0 ≡ get_or src i 0
  here i l =
      written_here s root va src s.bytes apart i l
      (omega (arith, page_room s root f.at_root.sized (va + i) 1 (f.pages i (inl l)) (omega arith)))

  moved : MovedOut s root va src (with_bytes s after)
  moved =
      let r = root_kept s after root as_long f.at_root in
      record {
        sized = r.sized;
        well_formed = r.formed;
        words = refl;
        tmarks = refl;
        fmarks = refl;
        bytes = λ i l. ap (λ (x : ℕ). get_or after x 0) (place_kept s after root (va + i)) ∙ here i l;
        rest = λ k h. written_rest s root va src s.bytes k h;
        others = λ r' a' rr b p o.
            ap (λ (x : ℕ). get_or after x 0) (place_kept s after r' a')
            ∙ written_rest s root va src s.bytes (place_at s r' a') (λ i l e.
            let u = one_address s f.at_root.sized f.at_root.formed r' a' root (va + i) (record { is_root = rr; below = omega arith; frame = p }) (has i l) e in
            o u.0 (omega (arith, u.1)) (omega (arith, u.1)));
      }

-- where the root can be used
module _ (s : Store) (root va : ℕ) (f : RootReady s root) (src : List ℕ) (v : ℕ) (s' : Store) (u : Out s root va src (Ok v) s') where
  ready : CopyReady s root va (length src)
  ready = copy_where s root va (length src) f u.0

  pub out_moved : MovedOut s root va src s'
  out_moved = subst (MovedOut s root va src) (sym u.1.1) (moved s root va src ready)

  -- a copy of as many bytes back into the kernel is not refused, and gives the source
  pub round_trip : (dst : List ℕ) → length dst ≡ length src → (a : Result ℕ Refusal) (dst' : List ℕ) → In s' root va dst a dst' → (a ≡ Ok 0) × (dst' ≡ src)
  round_trip dst e (Err k) dst' q =
      let c : CopyReady s' root va (length dst) =
      subst (λ (t : Store). CopyReady t root va (length dst)) (sym u.1.1)
      (copy_kept s (written s root va src s.bytes) root va (length dst) (as_long s root va src ready) (subst (CopyReady s root va) (sym e) ready)) in
      absurd (copy_clear s' root va (length dst) c _ q.0.applies)
  round_trip dst e (Ok w) dst' q =
      let m = in_moved s' root va dst w dst' q in
      (ap Ok q.1.0, ext_get_or 0 dst' src (m.size ∙ e) (λ i l. m.bytes i (omega (arith, m.size)) ∙ out_moved.bytes i (omega (arith, m.size))))
