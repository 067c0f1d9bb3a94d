-- Every call is lawful: a line for each. Assumes nothing.
use mathlib.Core.Path.{◌≡◌, refl, ap}
use mathlib.Core.Logic.{◌⊎◌, inl, inr}
use mathlib.Core.List.{List}
use Prim.Native.Nat.{ℕ, zero, suc}
use lib.ListN.{length}
use Rattle.std.specs.Prelude.{Result, Ok, Err}
use Rattle.refusal.specs.declared.Refusal.{Refusal}
use Rattle.refusal.specs.Number.{number_of}
use Rattle.address.specs.Answer.{refused, said, number_said}
use Rattle.store.specs.Store.{Store}
use Rattle.store.specs.SetUp.{SetUp}
use Rattle.store.proofs.SetUp.{one_set_up}
use Rattle.well_formed.specs.Check.{Check}
use Rattle.well_formed.proofs.Verdict.{one_check}
use Rattle.translate.specs.Translate.{Translate}
use Rattle.translate.specs.Satp.{Satp}
use Rattle.translate.proofs.TranslateLaws.{one_translate}
use Rattle.translate.proofs.SatpLaws.{one_satp}
use Rattle.map.specs.Create.{Create}
use Rattle.map.specs.Map.{Map}
use Rattle.map.proofs.CreateLaws.{one_create}
use Rattle.map.proofs.MapLaws.{one_map}
use Rattle.unmap.specs.Unmap.{Unmap}
use Rattle.unmap.specs.Clear.{Clear}
use Rattle.unmap.proofs.UnmapLaws.{one_unmap}
use Rattle.unmap.proofs.ClearLaws.{one_clear}
use Rattle.grow.specs.Init.{Init}
use Rattle.grow.specs.Grow.{Grow}
use Rattle.shrink.specs.Shrink.{Shrink}
use Rattle.grow.proofs.InitLaws.{one_init}
use Rattle.grow.proofs.GrowLaws.{one_grow}
use Rattle.shrink.proofs.ShrinkLaws.{one_shrink}
use Rattle.copies.specs.InOut.{In, Out}
use Rattle.strings.specs.Str.{str_said, Str}
use Rattle.child.specs.Child.{Child}
use Rattle.strings.specs.declared.StrRead.{StrRead}
use Rattle.copies.proofs.InOutLaws.{one_in, one_out}
use Rattle.copies.proofs.MovedLaws.{in_moved}
use Rattle.strings.proofs.TextLaws.{one_str, text_read}
use Rattle.child.proofs.ChildLaws.{one_child}
use Rattle.release.specs.Free.{Free}
use Rattle.process.specs.Parts.{UvmFree, SharedFree, ProcFree}
use Rattle.release.proofs.FreeLaws.{one_free}
use Rattle.process.proofs.PartLaws.{one_uvm_free, one_shared_free, one_proc_free}
use Rattle.sequences.specs.Call.{Call, set_up, check, uvmcreate, map, pgt_translate, uvm_init, uvm_alloc, uvm_dealloc, uvm_unmap, uvm_clear, uvm_copy, copy_out, copy_in, copy_in_str, free, uvm_free, proc_free_pagetable, free_shared_user_pagetable, as_satp}
use Rattle.sequences.specs.Answers.{Answers}
use Rattle.sequences.specs.Numbers.{numbers, Listed}
use Rattle.sequences.proofs.Reasons.{set_up_listed, check_listed, create_listed, translate_listed, satp_listed, map_listed, unmap_listed, clear_listed, init_listed, grow_listed, shrink_listed, copy_listed, str_listed, child_listed, free_listed, uvm_free_listed, shared_free_listed, proc_free_listed}
use Rattle.sequences.proofs.Left.{set_up_left, create_left}
use Rattle.sequences.proofs.RootLeft.{map_left, unmap_left, clear_left, init_left, grow_left, shrink_left, out_left, child_left}
use Rattle.sequences.proofs.PartLeft.{free_left, uvm_free_left, shared_free_left, proc_free_left}
use Rattle.sequences.proofs.Lawful.{Lawful, writing, reading, filling}

-- ---- the buffer that `copy_in` and `copy_in_str` fill

module _ (root va : ℕ) (s : Store) (b : List ℕ) where
  in_ends : (r : Result ℕ Refusal) (b' : List ℕ) → In s root va b r b'
      → ((number_said r).number ≡ 0) ⊎ ((n : ℕ) × Listed n (numbers (copy_in root va)) × (number_said r ≡ refused n) × (b' ≡ b))
  unfolding said
  in_ends (Err n) b' p = inr (number_of n, copy_listed p.0.applies, refl, p.1)
  in_ends (Ok v) b' p = inl refl

  in_size : (r : Result ℕ Refusal) (b' : List ℕ) → In s root va b r b' → length b' ≡ length b
  in_size (Err n) b' p = ap length p.1
  in_size (Ok v) b' p = (in_moved s root va b v b' p).size

  str_ends : (r : Result StrRead Refusal) (b' : List ℕ) → Str s root va b r b'
      → ((str_said r).number ≡ 0) ⊎ ((n : ℕ) × Listed n (numbers (copy_in_str root va)) × (str_said r ≡ refused n) × (b' ≡ b))
  unfolding str_said
  str_ends (Err n) b' p = inr (number_of n, str_listed p.0.applies, refl, p.1)
  str_ends (Ok r) b' p = inl refl

  str_size : (r : Result StrRead Refusal) (b' : List ℕ) → Str s root va b r b' → length b' ≡ length b
  str_size (Err n) b' p = ap length p.1
  str_size (Ok r) b' p = (text_read s root va b r.bytes r.met b' p).size

-- a refusal of a call made of parts leaves the store
uvm_free_no : (root size : ℕ) (s : Store) (n : Refusal) (s' : Store) → UvmFree root size s (Err n) s' → s' ≡ s
uvm_free_no root zero s n s' p = p.1
uvm_free_no root (suc size) s n s' p = p.1

pub lawful : (c : Call) → Lawful c (Answers c)
lawful set_up = writing set_up SetUp (λ s n s' p. (set_up_listed p.0.applies, p.1)) set_up_left one_set_up
lawful check = reading check Check (λ s n p. check_listed p.0.applies) one_check
lawful uvmcreate = writing uvmcreate Create (λ s n s' p. (create_listed p.0.applies, p.1)) create_left one_create
lawful (map root va pa size perm) =
    writing (map root va pa size perm) (λ s. Map s root va pa size perm) (λ s n s' p. (map_listed p.0.applies, p.1)) (λ s. map_left s root va pa size perm) (λ s. one_map s root va pa size perm)
lawful (pgt_translate root va) = reading (pgt_translate root va) (λ s. Translate s root va) (λ s n p. translate_listed p.0.applies) (λ s. one_translate s root va)
lawful (uvm_init root src) = writing (uvm_init root src) (λ s. Init s root src) (λ s n s' p. (init_listed p.0.applies, p.1)) (λ s. init_left s root src) (λ s. one_init s root src)
lawful (uvm_alloc root old new) =
    writing (uvm_alloc root old new) (λ s. Grow s root old new) (λ s n s' p. (grow_listed p.0.applies, p.1)) (λ s. grow_left s root old new) (λ s. one_grow s root old new)
lawful (uvm_dealloc root old new) =
    writing (uvm_dealloc root old new) (λ s. Shrink s root old new) (λ s n s' p. (shrink_listed p.0.applies, p.1)) (λ s. shrink_left s root old new) (λ s. one_shrink s root old new)
lawful (uvm_unmap root va n freeing) =
    writing (uvm_unmap root va n freeing) (λ s. Unmap s root va n freeing) (λ s k s' p. (unmap_listed p.0.applies, p.1)) (λ s. unmap_left s root va n freeing) (λ s. one_unmap s root va n freeing)
lawful (uvm_clear root va) = writing (uvm_clear root va) (λ s. Clear s root va) (λ s n s' p. (clear_listed p.0.applies, p.1)) (λ s. clear_left s root va) (λ s. one_clear s root va)
lawful (uvm_copy parent child size) =
    writing (uvm_copy parent child size) (λ s. Child s parent child size) (λ s n s' p. (child_listed p.0.applies, p.1)) (λ s. child_left s parent child size) (λ s. one_child s parent child size)
lawful (copy_out root va src) =
    writing (copy_out root va src) (λ s. Out s root va src) (λ s n s' p. (copy_listed p.0.applies, p.1)) (λ s. out_left s root va src) (λ s. one_out s root va src)
lawful (copy_in root va) = filling (copy_in root va) number_said (λ s. In s root va) (in_ends root va) (in_size root va) (λ s. one_in s root va)
lawful (copy_in_str root va) = filling (copy_in_str root va) str_said (λ s. Str s root va) (str_ends root va) (str_size root va) (λ s. one_str s root va)
lawful (free root) = writing (free root) (λ s. Free s root) (λ s n s' p. (free_listed p.0.applies, p.1)) (λ s. free_left s root) (λ s. one_free s root)
lawful (uvm_free root size) =
    writing (uvm_free root size) (UvmFree root size) (λ s n s' p. (uvm_free_listed root size s n s' p, uvm_free_no root size s n s' p)) (uvm_free_left root size) (one_uvm_free root size)
lawful (proc_free_pagetable root size) =
    writing (proc_free_pagetable root size) (ProcFree root size) (λ s n s' p. (proc_free_listed root size s n s' p, p.1)) (proc_free_left root size) (one_proc_free root size)
lawful (free_shared_user_pagetable root size) =
    writing (free_shared_user_pagetable root size) (SharedFree root size) (λ s n s' p. (shared_free_listed root size s n s' p, p.1)) (shared_free_left root size) (one_shared_free root size)
lawful (as_satp root) = reading (as_satp root) (λ s. Satp s root) (λ s n p. satp_listed p.0.applies) (λ s. one_satp s root)
