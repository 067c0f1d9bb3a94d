-- `page_table_entry::PageTableEntry::with` meets its contract. Assumes nothing.
use native.Mathlib.Omega.{arith}
use Rattle.page_table_entry.proofs.Change.{with_bit_lem, bit_written}
use Rattle.page_table_entry.proofs.PageTableEntry.with.Goals as goal

pub returns : goal.returns
returns c = with_bit_lem _ _ _ (omega arith) _ (bit_written _ _ _ (omega arith) (omega arith) (omega arith))
