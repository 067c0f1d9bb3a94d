-- What `free` and the calls made of parts leave where they are answered. Assumes nothing.
use mathlib.Core.Path.{ap, ◌∙◌}
use mathlib.Core.Bool.{Bool, true, false}
use mathlib.Core.List.{List}
use Prim.Native.Nat.{ℕ, zero, suc}
use native.Mathlib.Omega.{arith}
use lib.ListN.{length}
use Rattle.std.specs.Prelude.{Ok}
use Rattle.store.specs.Store.{Store, Sized}
use Rattle.well_formed.specs.Root.{RootReady}
use Rattle.unmap.specs.Unmap.{UnmapReason, Unmap}
use Rattle.shrink.specs.Sizes.{pages_to}
use Rattle.release.specs.Free.{FreeReason, at_root, of_root, released, Free}
use Rattle.process.specs.Parts.{UvmFree, trampoline, trapframe, SharedFree, ProcFree}
use Rattle.process.specs.RootGone.{RootGone}
use Rattle.release.proofs.Wiped.{wiped_length}
use Rattle.release.proofs.FreedLaws.{free_freed}
use Rattle.process.proofs.PartLaws.{uvm_free_gone, shared_free_gone, proc_free_gone}
use Rattle.sequences.proofs.Reasons.{unmap_root}
use Rattle.sequences.proofs.Tables.{SameTables}
use Rattle.sequences.proofs.Left.{Left, KeptSound, left_at}
use Rattle.sequences.proofs.RootLeft.{unmap_tables}

free_tables_lem : (s : Store) (root v : ℕ) (s' : Store) → Free s root (Ok v) s' → SameTables s s'
unfolding released
free_tables_lem s root v s' u = ap (λ (t : Store). length t.tmarks) u.1.1 ∙ wiped_length (of_root s root) 0 s.tmarks

pub free_left : (s : Store) (root v : ℕ) (s' : Store) → Free s root (Ok v) s' → Left s s'
free_left s root v s' u = left_at s root (FreeReason s root) (λ k. at_root) u.0 s' (λ r.
    let f = free_freed s root v s' r u in
    record { sound = record { sized = f.sized; formed = f.well_formed }; tables = free_tables_lem s root v s' u; frames = ap length f.fmarks })

kept_root_gone : {s s' : Store} {root v : ℕ} → Sized s → RootGone s root v s' → SameTables s s' → KeptSound s s'
kept_root_gone z g t = record {
  sound = record { sized = g.sized; formed = g.well_formed };
  tables = t;
  frames = omega (arith, g.sized.bytes, z.bytes, ap (λ (l : List ℕ). length l) g.bytes);
}

-- pages have left, and then the root has gone
part_left : (s : Store) (root va n : ℕ) (freeing : Bool) (x : ℕ) (s₁ : Store) → Unmap s root va n freeing (Ok x) s₁
    → (v : ℕ) (s' : Store) → (RootReady s root → RootGone s root v s') → SameTables s₁ s' → Left s s'
part_left s root va n freeing x s₁ u v s' g t =
    left_at s root (UnmapReason s root va n freeing) unmap_root u.0 s' (λ r. kept_root_gone r.sized (g r) (t ∙ unmap_tables s root va n freeing x s₁ u))

uvm_free_tables : (root size : ℕ) (s : Store) (v : ℕ) (s' : Store) → UvmFree root size s (Ok v) s' → SameTables s s'
uvm_free_tables root zero s v s' u = free_tables_lem s root v s' u
uvm_free_tables root (suc size) s v s' (x, s₁, u, w) = free_tables_lem s₁ root v s' w ∙ unmap_tables s root 0 (pages_to (suc size)) true x s₁ u

pub uvm_free_left : (root size : ℕ) (s : Store) (v : ℕ) (s' : Store) → UvmFree root size s (Ok v) s' → Left s s'
uvm_free_left root zero s v s' u = free_left s root v s' u
uvm_free_left root (suc size) s v s' (x, s₁, u, w) =
    part_left s root 0 (pages_to (suc size)) true x s₁ u v s' (λ r. uvm_free_gone root (suc size) s v s' r (x, s₁, u, w)) (free_tables_lem s₁ root v s' w)

pub shared_free_left : (root size : ℕ) (s : Store) (v : ℕ) (s' : Store) → SharedFree root size s (Ok v) s' → Left s s'
shared_free_left root size s v s' (x, s₁, u, w) =
    part_left s root trampoline 1 false x s₁ u v s' (λ r. shared_free_gone root size s v s' r (x, s₁, u, w)) (uvm_free_tables root size s₁ v s' w)

pub proc_free_left : (root size : ℕ) (s : Store) (v : ℕ) (s' : Store) → ProcFree root size s (Ok v) s' → Left s s'
proc_free_left root size s v s' (x, s₁, u, (y, s₂, t, w)) =
    part_left s root trampoline 1 false x s₁ u v s' (λ r. proc_free_gone root size s v s' r (x, s₁, u, (y, s₂, t, w)))
    (uvm_free_tables root size s₂ v s' w ∙ unmap_tables s₁ root trapframe 1 false y s₂ t)
