-- Entering pages does what demand 3 says. Assumes nothing.
use mathlib.Core.Path.{◌≡◌, sym, ap, ◌∙◌, subst}
use mathlib.Core.Logic.{inl, inr, by_cases}
use Prim.Native.Nat.{ℕ, ◌+◌, ◌*◌, ◌/◌, ◌^◌, ◌≤◌, ◌<◌}
use native.Mathlib.Decide.{dec_lt}
use native.Mathlib.Omega.{arith}
use Rattle.page_table_entry.specs.Layout.{frame_number}
use Rattle.page_table_entry.specs.Built.{entry_of}
use Rattle.store.specs.Store.{Store, frame_no}
use Rattle.store.specs.WellFormed.{Outside}
use Rattle.store.specs.Walk.{resolve}
use Rattle.store.proofs.Tree.{tree_of, well_formed_of}
use Rattle.walk.specs.Missing.{missing}
use Rattle.walk.proofs.MissingLaws.{missing_none, missing_le}
use Rattle.walk.proofs.Pages.{mapped_word}
use Rattle.enter.specs.Enter.{enter_pages, Plain}
use Rattle.map.specs.Demand3.{Fit, Room, Entered}
use Rattle.enter.proofs.EnterPages.{Ready, PagesEntered, enter_pages_lem}

-- ---- the entries

-- entry i names frame i, and has the same permissions
pub entry_next : (frame q i : ℕ) → entry_of (4096 * frame) q + 1024 * i ≡ entry_of (4096 * (frame + i)) q
entry_next frame q i = omega arith

-- an unaligned address is rounded down
pub entry_rounded : (pa q : ℕ) → entry_of pa q ≡ entry_of (4096 * (pa / 4096)) q
entry_rounded pa q = omega arith

entry_frame : (frame q : ℕ) → q ≤ 1023 → frame_no (entry_of (4096 * frame) q) ≡ frame
entry_frame frame q h = omega arith

number_of : (e frame : ℕ) → frame_no e ≡ frame → frame < 2 ^ 44 → frame_number e ≡ frame
number_of e frame f l = omega arith

-- frames below 2 ^ 44 outside the held window have entries that W4 allows in every slot of level 0
pub entry_plain : (frame q : ℕ) → q ≤ 1023 → frame < 2 ^ 44 → Outside frame → Plain (entry_of (4096 * frame) q)
entry_plain frame q h l o = record { valid = omega arith; small = omega arith; outside = rw (entry_frame frame q h) o }

-- a frame that is not in the held window is outside
pub outside_of : (frame : ℕ) → (0x10_0000 ≤ frame → frame < 0x12_0000 → ⊥) → Outside frame
outside_of frame h = by_cases (dec_lt frame 0x10_0000) (λ l. inl l) (λ n. by_cases (dec_lt frame 0x12_0000) (λ l. absurd (h (omega arith) l)) (λ m. inr (omega arith)))

-- ---- the pages

module _ (s : Store) (r p n frame q : ℕ) (fit : Fit s r p n frame q) (room : Room s r p n) where
  abbrev s' : Store
  s' = enter_pages s r p n (entry_of (4096 * frame) q)

  pub ready : Ready n s r p (entry_of (4096 * frame) q)
  ready = record {
    sized = fit.sized;
    tree = tree_of s fit.sized fit.well_formed;
    root = fit.root;
    range = fit.pages;
    unmapped = λ i l.
        by_cases (dec_lt 0 (resolve s r (p + i))) (λ q. absurd (room.unmapped i l (mapped_word s fit.sized fit.well_formed r fit.root (p + i) (fit.pages i l) (λ e. omega arith)))) (λ n. omega arith);
    plain = λ i l. subst Plain (sym (entry_next frame q i)) (entry_plain (frame + i) q fit.permissions (fit.frames i l) (fit.outside i l));
  }

  pages : PagesEntered s s' r p n (entry_of (4096 * frame) q)
  pages = enter_pages_lem n s r p (entry_of (4096 * frame) q) ready room.tables

  word : (i : ℕ) → i < n → resolve s' r (p + i) ≡ entry_of (4096 * (frame + i)) q
  word i l = pages.here i l ∙ entry_next frame q i

  entered : Entered s r p n frame q s'
  entered = record {
    sized = pages.sized;
    well_formed = well_formed_of s' pages.sized pages.tree;
    mapped = λ i l. rw (word i l) (omega arith);
    framed = λ i l. number_of (resolve s' r (p + i)) (frame + i) (ap frame_no (word i l) ∙ entry_frame (frame + i) q fit.permissions) (fit.frames i l);
    permitted = λ i l. rw (word i l) (omega (arith, fit.permissions));
    whole = word;
    others = pages.rest;
    roots = pages.roots;
    bytes = pages.bytes;
    fmarks = pages.fmarks;
    taken = pages.free;
    none = λ e. ap (missing s r p) e ∙ missing_none s r p;
    bound = missing_le s r p n;
  }

-- the same for an address of the first frame, aligned or not
pub entered_at : (s : Store) (r p n pa q : ℕ) → Fit s r p n (pa / 4096) q → Room s r p n → Entered s r p n (pa / 4096) q (enter_pages s r p n (entry_of pa q))
entered_at s r p n pa q fit room =
    subst (λ (e : ℕ). Entered s r p n (pa / 4096) q (enter_pages s r p n e)) (sym (entry_rounded pa q)) (entered s r p n (pa / 4096) q fit room)
