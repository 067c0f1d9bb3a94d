-- What the calls on the pages of a named root leave where they are answered. Assumes nothing.
use mathlib.Core.Path.{refl, sym, ap, ◌∙◌, subst}
use mathlib.Core.Logic.{inl, inr, by_cases}
use mathlib.Core.Bool.{Bool}
use mathlib.Core.List.{List}
use Prim.Native.Nat.{ℕ, zero, suc, ◌+◌, ◌/◌, ◌^◌, ◌≤◌, ◌<◌}
use native.Mathlib.Decide.{dec_lt, dec_le}
use native.Mathlib.Omega.{arith}
use lib.ListN.{length}
use Rattle.std.specs.Prelude.{Ok}
use Rattle.page_table_entry.specs.Built.{entry_of}
use Rattle.rounding.specs.Range.{first_page}
use Rattle.store.specs.Store.{Store, Sized}
use Rattle.store.specs.WellFormed.{Outside}
use Rattle.store.specs.Outcome.{NoReason}
use Rattle.well_formed.specs.Root.{RootReady, Asked}
use Rattle.map.specs.Map.{Map}
use Rattle.map.specs.Numbers as range
use Rattle.map.specs.Reasons.{MapReason, numbers}
use Rattle.map.specs.Demand3.{Fit}
use Rattle.map.proofs.Entered.{outside_of}
use Rattle.map.proofs.Demand3.{demand_3}
use Rattle.unmap.specs.Leave.{leave_pages}
use Rattle.unmap.specs.Unmap as unmap
use Rattle.unmap.specs.Clear as clear
use Rattle.unmap.specs.Gone.{Gone}
use Rattle.unmap.proofs.UnmapReasons.{within}
use Rattle.unmap.proofs.UnmapLaws.{unmap_gone}
use Rattle.unmap.proofs.ClearedLaws.{clear_cleared}
use Rattle.shrink.specs.Sizes.{pages_to, SizeReason, at_root, too_large}
use Rattle.grow.specs.Init as init
use Rattle.grow.specs.Grow as grow
use Rattle.shrink.specs.Shrink as shrink
use Rattle.fresh.specs.Grown.{Grown}
use Rattle.grow.proofs.InitLaws.{init_grown}
use Rattle.grow.proofs.GrowLaws.{grow_grown}
use Rattle.shrink.proofs.ShrinkLaws.{shrink_gone}
use Rattle.copies.specs.Needed as needed
use Rattle.copies.specs.InOut.{Out}
use Rattle.child.specs.Child as child
use Rattle.copies.proofs.MovedLaws.{out_moved}
use Rattle.child.proofs.ChildLaws.{child_grown}
use Rattle.sequences.proofs.Reasons.{map_root, unmap_root, clear_root}
use Rattle.sequences.proofs.Tables.{SameTables, enter_tables, fresh_table, fresh_tables, leave_tables}
use Rattle.sequences.proofs.Left.{Left, KeptSound, ready_at, left_at}

-- ---- pages that have got frames or have left

kept_grown : {s s' : Store} {r p n : ℕ} {q : ℕ → ℕ} {b : ℕ → List ℕ} → Grown s r p n q b s' → SameTables s s' → KeptSound s s'
kept_grown g t = record { sound = record { sized = g.sized; formed = g.well_formed }; tables = t; frames = g.pool }

kept_gone : {s s' : Store} {r p n : ℕ} {freeing : Bool} → Sized s → Gone s r p n freeing s' → KeptSound s s'
kept_gone z g = record {
  sound = record { sized = g.sized; formed = g.well_formed };
  tables = ap length g.tmarks;
  frames = omega (arith, g.sized.bytes, z.bytes, ap (λ (l : List ℕ). length l) g.bytes);
}

-- ---- map

module _ (s : Store) (root va pa size perm v : ℕ) (s' : Store) (u : Map s root va pa size perm (Ok v) s') where
  low : (i : ℕ) → i < range.pages_of va size → first_page va + i < 2 ^ 26
  low i l =
      by_cases (dec_lt (first_page va + i) (2 ^ 26)) (λ y. y)
      (λ y. absurd (u.0 6 (numbers (range.too_high (first_page va + i) (omega arith) (omega arith) (omega arith)))))

  permitted : perm ≤ 1023
  permitted = by_cases (dec_le perm 1023) (λ y. y) (λ y. absurd (u.0 8 (numbers (range.permissions (omega arith)))))

  framed : (i : ℕ) → i < range.pages_of va size → range.frame_at pa i < 2 ^ 44
  framed i l = by_cases (dec_lt (range.frame_at pa i) (2 ^ 44)) (λ y. y) (λ y. absurd (u.0 9 (numbers (range.frame_high i l (omega arith)))))

  outside : (i : ℕ) → i < range.pages_of va size → Outside (range.frame_at pa i)
  outside i l = outside_of (range.frame_at pa i) (λ a b. u.0 10 (numbers (range.held i l (record { from = a; upto = b }))))

  fit : RootReady s root → Fit s root (first_page va) (range.pages_of va size) (pa / 4096) perm
  fit r = record { sized = r.sized; well_formed = r.formed; root = r.is_root; pages = low; permissions = permitted; frames = framed; outside = outside }

  pub map_left : Left s s'
  map_left = left_at s root (MapReason s root va pa size perm) map_root u.0 s' (λ r.
      let e = (demand_3 s root va pa size perm (fit r)).entered v s' u in
      record {
        sound = record { sized = e.sized; formed = e.well_formed };
        tables = ap (λ (t : Store). length t.tmarks) u.1.1 ∙ enter_tables (range.pages_of va size) s root (first_page va) (entry_of pa perm);
        frames = ap length e.fmarks;
      })

-- ---- uvm_unmap and uvm_clear

pub unmap_tables : (s : Store) (root va n : ℕ) (freeing : Bool) (v : ℕ) (s' : Store) → unmap.Unmap s root va n freeing (Ok v) s' → SameTables s s'
unmap_tables s root va n freeing v s' u = ap (λ (t : Store). length t.tmarks) u.1.1 ∙ leave_tables n s root (va / 4096) freeing

unmap_kept : (s : Store) (root va n : ℕ) (freeing : Bool) (v : ℕ) (s' : Store) → unmap.Unmap s root va n freeing (Ok v) s' → RootReady s root → KeptSound s s'
unfolding leave_pages
unmap_kept s root va zero freeing v s' u r = subst (KeptSound s) (sym u.1.1) (record { sound = record { sized = r.sized; formed = r.formed }; tables = refl; frames = refl })
unmap_kept s root va (suc n) freeing v s' u r =
    let a : Asked s root (va / 4096) (suc n) =
    record { at_root = r; pages = within (va / 4096) (suc n) (omega arith) (λ h. u.0 6 (unmap.too_high h)) } in
    kept_gone r.sized (unmap_gone s root va (suc n) freeing v s' a u)

pub unmap_left : (s : Store) (root va n : ℕ) (freeing : Bool) (v : ℕ) (s' : Store) → unmap.Unmap s root va n freeing (Ok v) s' → Left s s'
unmap_left s root va n freeing v s' u = left_at s root (unmap.UnmapReason s root va n freeing) unmap_root u.0 s' (unmap_kept s root va n freeing v s' u)

pub clear_left : (s : Store) (root va v : ℕ) (s' : Store) → clear.Clear s root va (Ok v) s' → Left s s'
clear_left s root va v s' u = left_at s root (clear.ClearReason s root va) clear_root u.0 s' (λ r.
    let h : va < 2 ^ 38 = by_cases (dec_lt va (2 ^ 38)) (λ y. y) (λ y. absurd (u.0 6 (clear.too_high (omega arith)))) in
    let c = clear_cleared s root va v s' r.sized r.formed r.is_root h u in
    record { sound = record { sized = c.sized; formed = c.well_formed }; tables = ap length c.tmarks; frames = ap length c.fmarks })

-- ---- uvm_init, uvm_alloc and uvm_dealloc

pub init_left : (s : Store) (root : ℕ) (src : List ℕ) (v : ℕ) (s' : Store) → init.Init s root src (Ok v) s' → Left s s'
init_left s root src v s' u = left_at s root (init.InitReason s root src) (λ k. init.at_root) u.0 s' (λ r.
    kept_grown (init_grown s root src v s' (record { at_root = r; pages = omega arith }) u)
    (ap (λ (t : Store). length t.tmarks) u.1.1 ∙ fresh_table s root 0 31 (init.padded src)))

-- both sizes are at most 2 ^ 38 where none is too large
small : (s : Store) (root old new : ℕ) → NoReason (SizeReason s root old new) → (old ≤ 2 ^ 38) × (new ≤ 2 ^ 38)
small s root old new none = (
  by_cases (dec_le old (2 ^ 38)) (λ y. y) (λ y. absurd (none 6 (too_large (inl (omega arith))))),
  by_cases (dec_le new (2 ^ 38)) (λ y. y) (λ y. absurd (none 6 (too_large (inr (omega arith))))),
)

pub grow_left : (s : Store) (root old new v : ℕ) (s' : Store) → grow.Grow s root old new (Ok v) s' → Left s s'
grow_left s root old new v s' u = left_at s root (grow.GrowReason s root old new) (λ k h. grow.sizes (at_root h)) u.0 s' (λ r.
    let z = small s root old new (λ k h. u.0 k (grow.sizes h)) in
    let h : pages_to old + grow.gained old new ≤ 2 ^ 26 = omega (arith, z.0, z.1) in
    kept_grown (grow_grown s root old new v s' (record { at_root = r; pages = h }) u)
    (ap (λ (t : Store). length t.tmarks) u.1.1 ∙ fresh_tables (grow.gained old new) s root (pages_to old) (λ _. 31) (λ _. grow.zeroed)))

pub shrink_left : (s : Store) (root old new v : ℕ) (s' : Store) → shrink.Shrink s root old new (Ok v) s' → Left s s'
shrink_left s root old new v s' u = left_at s root (shrink.ShrinkReason s root old new) (λ k h. shrink.sizes (at_root h)) u.0 s' (λ r.
    let z = small s root old new (λ k h. u.0 k (shrink.sizes h)) in
    let h : pages_to new + shrink.lost old new ≤ 2 ^ 26 = omega (arith, z.0, z.1) in
    kept_gone r.sized (shrink_gone s root old new v s' (record { at_root = r; pages = h }) u))

-- ---- copy_out and uvm_copy

pub out_left : (s : Store) (root va : ℕ) (src : List ℕ) (v : ℕ) (s' : Store) → Out s root va src (Ok v) s' → Left s s'
out_left s root va src v s' u = left_at s root (needed.CopyReason s root va (length src)) (λ k. needed.at_root) u.0 s' (λ r.
    let m = out_moved s root va r src v s' u in
    record { sound = record { sized = m.sized; formed = m.well_formed }; tables = ap length m.tmarks; frames = ap length m.fmarks })

pub child_left : (s : Store) (p c size v : ℕ) (s' : Store) → child.Child s p c size (Ok v) s' → Left s s'
child_left s p c size v s' u = left_at s p (child.ChildReason s p c size) (λ k. child.at_parent) u.0 s' (λ r.
    let rc = ready_at s c (child.ChildReason s p c size) (λ k. child.at_child) u.0 (record { sized = r.sized; formed = r.formed }) in
    kept_grown (child_grown s p c size r rc v s' u)
    (ap (λ (t : Store). length t.tmarks) u.1.1 ∙ fresh_tables (size / 4096) s c 0 (child.page_flags s p) (child.page_bytes s p)))
