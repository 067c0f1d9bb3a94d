-- The numbers that each call can be refused with, in the words and the order of document 01.
use Rattle.std.specs.Prelude.{◌≡◌, Bool, true, false, cond, List, [], ◌∷◌, ℕ, eqb}
use Rattle.sequences.specs.Call.{Call, set_up, check, uvmcreate, map, pgt_translate, uvm_init, uvm_alloc, uvm_dealloc, uvm_unmap, uvm_clear, uvm_copy, copy_out, copy_in, copy_in_str, free, uvm_free, proc_free_pagetable, free_shared_user_pagetable, as_satp}

-- 1 and 2, and 3 where a root is named
abbrev pub after_two : List ℕ → List ℕ
after_two ns = 1 ∷ 2 ∷ ns

abbrev pub after_root : List ℕ → List ℕ
after_root ns = 1 ∷ 2 ∷ 3 ∷ ns

-- the calls made of parts have the numbers of their parts: each unmaps from a page's start, so none has 7, and with freeing there is no 10
abbrev pub numbers : Call → List ℕ
numbers set_up = 1 ∷ []
numbers check = 1 ∷ []
numbers uvmcreate = after_two (17 ∷ [])
numbers (map root va pa size perm) = after_root (6 ∷ 8 ∷ 9 ∷ 10 ∷ 14 ∷ 17 ∷ [])
numbers (pgt_translate root va) = after_root (6 ∷ 11 ∷ 12 ∷ [])
numbers (uvm_init root src) = after_root (5 ∷ 14 ∷ 16 ∷ 17 ∷ [])
numbers (uvm_alloc root old new) = after_root (6 ∷ 14 ∷ 16 ∷ 17 ∷ [])
numbers (uvm_dealloc root old new) = after_root (6 ∷ 11 ∷ 13 ∷ [])
numbers (uvm_unmap root va n freeing) = after_root (6 ∷ 7 ∷ 10 ∷ 11 ∷ 13 ∷ [])
numbers (uvm_clear root va) = after_root (6 ∷ 11 ∷ [])
numbers (uvm_copy parent child size) = after_root (4 ∷ 6 ∷ 7 ∷ 11 ∷ 14 ∷ 15 ∷ 16 ∷ 17 ∷ [])
numbers (copy_out root va src) = after_root (6 ∷ 11 ∷ 12 ∷ 15 ∷ [])
numbers (copy_in root va) = after_root (6 ∷ 11 ∷ 12 ∷ 15 ∷ [])
numbers (copy_in_str root va) = after_root (6 ∷ 11 ∷ 12 ∷ 15 ∷ [])
numbers (free root) = after_root (18 ∷ [])
numbers (uvm_free root size) = after_root (6 ∷ 11 ∷ 13 ∷ 18 ∷ [])
numbers (proc_free_pagetable root size) = after_root (6 ∷ 10 ∷ 11 ∷ 13 ∷ 18 ∷ [])
numbers (free_shared_user_pagetable root size) = after_root (6 ∷ 10 ∷ 11 ∷ 13 ∷ 18 ∷ [])
numbers (as_satp root) = after_root []

-- n is one of ns
unfoldable pub among : ℕ → List ℕ → Bool
among n [] = false
among n (x ∷ ns) = cond (eqb n x) true (among n ns)

abbrev pub Listed : ℕ → List ℕ → Type 0
Listed n ns = among n ns ≡ true
