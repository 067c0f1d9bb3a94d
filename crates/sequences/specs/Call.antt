-- A call with its numbers, and all that is lent to it.
use Rattle.std.specs.Prelude.{Bool, List, ℕ}
use Rattle.store.specs.Store.{Store}

-- set-up, the check and the calls of document 01, in its order; src are the bytes that a call is lent for reading
pub data Call : Type 0 where
  set_up : Call
  check : Call
  uvmcreate : Call
  map : (root va pa size perm : ℕ) → Call
  pgt_translate : (root va : ℕ) → Call
  uvm_init : (root : ℕ) (src : List ℕ) → Call
  uvm_alloc : (root old new : ℕ) → Call
  uvm_dealloc : (root old new : ℕ) → Call
  uvm_unmap : (root va n : ℕ) (freeing : Bool) → Call
  uvm_clear : (root va : ℕ) → Call
  uvm_copy : (parent child size : ℕ) → Call
  copy_out : (root va : ℕ) (src : List ℕ) → Call
  copy_in : (root va : ℕ) → Call
  copy_in_str : (root va : ℕ) → Call
  free : (root : ℕ) → Call
  uvm_free : (root size : ℕ) → Call
  proc_free_pagetable : (root size : ℕ) → Call
  free_shared_user_pagetable : (root size : ℕ) → Call
  as_satp : (root : ℕ) → Call

-- what a call may write to: the store, and the kernel's own buffer, which `copy_in` and `copy_in_str` fill and no other call is given
pub record Lent : Type 0 where
  pub store : Store
  pub buffer : List ℕ

abbrev pub lent : Store → List ℕ → Lent
lent s b = record { store = s; buffer = b }
