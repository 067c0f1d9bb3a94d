-- An entry of level l calls for the table below at level l - 1, and a table of level l for its entries at the same level: the
-- measure is 2l for an entry and 2l + 1 for a table.
use Prim.Native.Nat.{ℕ, ◌+◌}
use Rattle.dump.specs.Dump.{upward, entry_rows, Listed}
use Rattle.dump.proofs.listing.+list_entry_list_table.Given as goal

abbrev pub decreases-list_entry : goal.decreases-list_entry
decreases-list_entry l = l.level + l.level

abbrev pub decreases-list_table : goal.decreases-list_table
decreases-list_table l = l.level + l.level + 1

abbrev pub invariant-list_table-loop-i : goal.invariant-list_table-loop-i
invariant-list_table-loop-i l = Listed l.initial.text l.initial.listed (upward (λ (k : ℕ). entry_rows l.words l.level l.t k) l.i) l.text l.listed
