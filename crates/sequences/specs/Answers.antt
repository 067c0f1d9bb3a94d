-- What a call may say and leave: its own promise, said of the number and the values of document 01.
use Rattle.std.specs.Prelude.{◌≡◌, List, ℕ, Result}
use Rattle.refusal.specs.declared.Refusal.{Refusal}
use Rattle.address.specs.Answer.{Said, number_said}
use Rattle.store.specs.Store.{Store}
use Rattle.store.specs.SetUp.{SetUp}
use Rattle.well_formed.specs.Check.{Check}
use Rattle.translate.specs.Translate.{Translate}
use Rattle.translate.specs.Satp.{Satp}
use Rattle.map.specs.Create.{Create}
use Rattle.map.specs.Map.{Map}
use Rattle.unmap.specs.Unmap.{Unmap}
use Rattle.unmap.specs.Clear.{Clear}
use Rattle.grow.specs.Init.{Init}
use Rattle.grow.specs.Grow.{Grow}
use Rattle.shrink.specs.Shrink.{Shrink}
use Rattle.copies.specs.InOut.{In, Out}
use Rattle.strings.specs.Str.{str_said, Str}
use Rattle.child.specs.Child.{Child}
use Rattle.release.specs.Free.{Free}
use Rattle.process.specs.Parts.{UvmFree, SharedFree, ProcFree}
use Rattle.sequences.specs.Call.{Call, set_up, check, uvmcreate, map, pgt_translate, uvm_init, uvm_alloc, uvm_dealloc, uvm_unmap, uvm_clear, uvm_copy, copy_out, copy_in, copy_in_str, free, uvm_free, proc_free_pagetable, free_shared_user_pagetable, as_satp, Lent}

-- a is what an answer says on paper of which P holds
pub record Spoken {A : Type 0} (paper : A → Said) (P : A → Type 0) (a : Said) : Type 0 where
  pub answer : A
  pub holds : P answer
  pub says : a ≡ paper answer

-- the store is lent for writing, and there is no buffer to write to
pub record Writes (P : Result ℕ Refusal → Store → Type 0) (l : Lent) (a : Said) (l' : Lent) : Type 0 where
  pub spoken : Spoken number_said (λ (r : Result ℕ Refusal). P r l'.store) a
  pub buffer : l'.buffer ≡ l.buffer

-- the store is lent for reading
pub record Reads (P : Result ℕ Refusal → Type 0) (l : Lent) (a : Said) (l' : Lent) : Type 0 where
  pub spoken : Spoken number_said P a
  pub same : l' ≡ l

-- the store is lent for reading, and the buffer is filled
pub record Fills {A : Type 0} (paper : A → Said) (P : A → List ℕ → Type 0) (l : Lent) (a : Said) (l' : Lent) : Type 0 where
  pub spoken : Spoken paper (λ (r : A). P r l'.buffer) a
  pub store : l'.store ≡ l.store

-- l is lent to the call, a is said, and l' is left
abbrev pub Answers : Call → Lent → Said → Lent → Type 0
Answers set_up l = Writes (SetUp l.store) l
Answers check l = Reads (Check l.store) l
Answers uvmcreate l = Writes (Create l.store) l
Answers (map root va pa size perm) l = Writes (Map l.store root va pa size perm) l
Answers (pgt_translate root va) l = Reads (Translate l.store root va) l
Answers (uvm_init root src) l = Writes (Init l.store root src) l
Answers (uvm_alloc root old new) l = Writes (Grow l.store root old new) l
Answers (uvm_dealloc root old new) l = Writes (Shrink l.store root old new) l
Answers (uvm_unmap root va n freeing) l = Writes (Unmap l.store root va n freeing) l
Answers (uvm_clear root va) l = Writes (Clear l.store root va) l
Answers (uvm_copy parent child size) l = Writes (Child l.store parent child size) l
Answers (copy_out root va src) l = Writes (Out l.store root va src) l
Answers (copy_in root va) l = Fills number_said (In l.store root va l.buffer) l
Answers (copy_in_str root va) l = Fills str_said (Str l.store root va l.buffer) l
Answers (free root) l = Writes (Free l.store root) l
Answers (uvm_free root size) l = Writes (UvmFree root size l.store) l
Answers (proc_free_pagetable root size) l = Writes (ProcFree root size l.store) l
Answers (free_shared_user_pagetable root size) l = Writes (SharedFree root size l.store) l
Answers (as_satp root) l = Reads (Satp l.store root) l
