-- Every reply is that of a step: what an exported function promises is what its call may say and leave. Assumes nothing.
use mathlib.Core.Path.{refl}
use mathlib.Core.Bool.{Bool}
use mathlib.Core.List.{List}
use Prim.Native.Nat.{ℕ}
use Rattle.std.specs.Prelude.{Result}
use Rattle.refusal.specs.declared.Refusal.{Refusal}
use Rattle.address.specs.Answer.{Said, number_said}
use Rattle.store.specs.Store.{Store}
use Rattle.store.specs.SetUp.{SetUp}
use Rattle.well_formed.specs.Check.{Check}
use Rattle.translate.specs.Translate.{Translate}
use Rattle.translate.specs.Satp.{Satp}
use Rattle.map.specs.Create.{Create}
use Rattle.map.specs.Map.{Map}
use Rattle.unmap.specs.Unmap.{Unmap}
use Rattle.unmap.specs.Clear.{Clear}
use Rattle.grow.specs.Init.{Init}
use Rattle.grow.specs.Grow.{Grow}
use Rattle.shrink.specs.Shrink.{Shrink}
use Rattle.copies.specs.InOut.{Out}
use Rattle.strings.specs.Str.{str_said}
use Rattle.child.specs.Child.{Child}
use Rattle.release.specs.Free.{Free}
use Rattle.process.specs.Parts.{UvmFree, SharedFree, ProcFree}
use Rattle.sequences.specs.Call.{set_up, check, uvmcreate, map, pgt_translate, uvm_init, uvm_alloc, uvm_dealloc, uvm_unmap, uvm_clear, uvm_copy, copy_out, copy_in, copy_in_str, free, uvm_free, proc_free_pagetable, free_shared_user_pagetable, as_satp, lent}
use Rattle.sequences.specs.Answers.{Writes, Reads}
use Rattle.replies.specs.Reply.{Replied}
use Rattle.interface.specs.Calls.{SetUpReply, CheckReply, TranslateReply, SatpReply, CreateReply, MapReply, UnmapReply, ClearReply, InitReply, GrowReply, ShrinkReply, InReply, OutReply, StrReply, ChildReply, FreeReply, UvmFreeReply, SharedFreeReply, ProcFreeReply}
use Rattle.sequences.specs.Told.{Told, Tells}
use Rattle.replies.specs.declared.Reply.{Reply}

-- b is a buffer that is not lent, or that which is filled and becomes b'
module _ (s : Store) (b : List ℕ) (r : Reply) where
  written : (P : Result ℕ Refusal → Store → Type 0) (s' : Store) → Replied (λ (a : Result ℕ Refusal). P a s') r → Told (λ (a : Said). Writes P (lent s b) a (lent s' b)) r
  written P s' x = record {
    said = number_said x.answer;
    holds = record { spoken = record { answer = x.answer; holds = x.holds; says = refl }; buffer = refl };
    says = x.says;
  }

  read : (P : Result ℕ Refusal → Type 0) → Replied P r → Told (λ (a : Said). Reads P (lent s b) a (lent s b)) r
  read P x = record {
    said = number_said x.answer;
    holds = record { spoken = record { answer = x.answer; holds = x.holds; says = refl }; same = refl };
    says = x.says;
  }

  pub check_told : CheckReply s r → Tells check (lent s b) r (lent s b)
  check_told = read (Check s)

  pub translate_told : (root va : ℕ) → TranslateReply s root va r → Tells (pgt_translate root va) (lent s b) r (lent s b)
  translate_told root va = read (Translate s root va)

  pub satp_told : (root : ℕ) → SatpReply s root r → Tells (as_satp root) (lent s b) r (lent s b)
  satp_told root = read (Satp s root)

  pub in_told : (root va : ℕ) (b' : List ℕ) → InReply s root va b r b' → Tells (copy_in root va) (lent s b) r (lent s b')
  in_told root va b' x = record {
    said = number_said x.answer;
    holds = record { spoken = record { answer = x.answer; holds = x.holds; says = refl }; store = refl };
    says = x.says;
  }

  pub str_told : (root va : ℕ) (b' : List ℕ) → StrReply s root va b r b' → Tells (copy_in_str root va) (lent s b) r (lent s b')
  str_told root va b' x = record {
    said = str_said x.answer;
    holds = record { spoken = record { answer = x.answer; holds = x.holds; says = refl }; store = refl };
    says = x.says;
  }

  -- s' is the store that is left
  module _ (s' : Store) where
    pub set_up_told : SetUpReply s r s' → Tells set_up (lent s b) r (lent s' b)
    set_up_told = written (SetUp s) s'

    pub create_told : CreateReply s r s' → Tells uvmcreate (lent s b) r (lent s' b)
    create_told = written (Create s) s'

    pub map_told : (root va pa size perm : ℕ) → MapReply s root va pa size perm r s' → Tells (map root va pa size perm) (lent s b) r (lent s' b)
    map_told root va pa size perm = written (Map s root va pa size perm) s'

    pub unmap_told : (root va n : ℕ) (freeing : Bool) → UnmapReply s root va n freeing r s' → Tells (uvm_unmap root va n freeing) (lent s b) r (lent s' b)
    unmap_told root va n freeing = written (Unmap s root va n freeing) s'

    pub clear_told : (root va : ℕ) → ClearReply s root va r s' → Tells (uvm_clear root va) (lent s b) r (lent s' b)
    clear_told root va = written (Clear s root va) s'

    pub init_told : (root : ℕ) (src : List ℕ) → InitReply s root src r s' → Tells (uvm_init root src) (lent s b) r (lent s' b)
    init_told root src = written (Init s root src) s'

    pub grow_told : (root old new : ℕ) → GrowReply s root old new r s' → Tells (uvm_alloc root old new) (lent s b) r (lent s' b)
    grow_told root old new = written (Grow s root old new) s'

    pub shrink_told : (root old new : ℕ) → ShrinkReply s root old new r s' → Tells (uvm_dealloc root old new) (lent s b) r (lent s' b)
    shrink_told root old new = written (Shrink s root old new) s'

    pub out_told : (root va : ℕ) (src : List ℕ) → OutReply s root va src r s' → Tells (copy_out root va src) (lent s b) r (lent s' b)
    out_told root va src = written (Out s root va src) s'

    pub child_told : (parent child size : ℕ) → ChildReply s parent child size r s' → Tells (uvm_copy parent child size) (lent s b) r (lent s' b)
    child_told parent child size = written (Child s parent child size) s'

    pub free_told : (root : ℕ) → FreeReply s root r s' → Tells (free root) (lent s b) r (lent s' b)
    free_told root = written (Free s root) s'

    pub uvm_free_told : (root size : ℕ) → UvmFreeReply s root size r s' → Tells (uvm_free root size) (lent s b) r (lent s' b)
    uvm_free_told root size = written (UvmFree root size s) s'

    pub shared_free_told : (root size : ℕ) → SharedFreeReply s root size r s' → Tells (free_shared_user_pagetable root size) (lent s b) r (lent s' b)
    shared_free_told root size = written (SharedFree root size s) s'

    pub proc_free_told : (root size : ℕ) → ProcFreeReply s root size r s' → Tells (proc_free_pagetable root size) (lent s b) r (lent s' b)
    proc_free_told root size = written (ProcFree root size s) s'
