-- The cycle of calls {list_entry, list_table} meets its contracts. Assumes nothing.
use Prim.Native.Nat.{ℕ}
use native.Mathlib.Omega.{arith}
use Rattle.dump.specs.Dump.{entry_rows}
use Rattle.dump.proofs.Listings.{upward_none, upward_more, upward_part, table_is, table_upto, entry_none, entry_some, entry_room, below_none, below_more, listed_none, listed_row, listed_then}
use Rattle.dump.proofs.listing.+list_entry_list_table.Goals as goal

pub list_entry-returns-then-e-eq0 : goal.list_entry-returns-then-e-eq0
list_entry-returns-then-e-eq0 t c = let a = c.args in rw (entry_none a.words.now a.level a.t a.i c.word_at-e.result c.word_at-e.ensures c.if-e-eq0.true) listed_none

pub list_entry-overflow_add-result : goal.list_entry-overflow_add-result
list_entry-overflow_add-result t c = let a = c.args in omega (arith, entry_room a.words.now a.level a.t a.i c.word_at-e.result c.word_at-e.ensures a.count c.if-e-eq0.false c.requires.room)

pub list_entry-returns-then-level-eq0 : goal.list_entry-returns-then-level-eq0
list_entry-returns-then-level-eq0 t c =
    let a = c.args in
    rw (entry_some a.words.now a.level a.t a.i c.word_at-e.result c.word_at-e.ensures c.if-e-eq0.false, below_none _ _ _ c.if-level-eq0.true) (listed_row c.put_row.ensures)

pub list_entry-overflow_add-count : goal.list_entry-overflow_add-count
list_entry-overflow_add-count t c = let a = c.args in omega (arith, entry_room a.words.now a.level a.t a.i c.word_at-e.result c.word_at-e.ensures a.count c.if-e-eq0.false c.requires.room)

pub list_entry-list_table-requires : goal.list_entry-list_table-requires
list_entry-list_table-requires t c =
    let a = c.args in
    let q = rw (below_more a.words.now a.level c.word_at-e.result c.if-level-eq0.false, ← c.pointed_table.ensures.0) at (entry_room a.words.now a.level a.t a.i c.word_at-e.result c.word_at-e.ensures a.count c.if-e-eq0.false c.requires.room) in
    (omega arith, ((c.pointed_table.ensures.1, omega arith), q))

pub list_entry-returns : goal.list_entry-returns
list_entry-returns t c =
    let a = c.args in
    rw (entry_some a.words.now a.level a.t a.i c.word_at-e.result c.word_at-e.ensures c.if-e-eq0.false, below_more a.words.now a.level c.word_at-e.result c.if-level-eq0.false, ← c.pointed_table.ensures.0)
    (listed_then (listed_row c.put_row.ensures) c.list_table.ensures)

pub list_table-loop-i-init : goal.list_table-loop-i-init
list_table-loop-i-init t c = rw (upward_none (λ (k : ℕ). entry_rows c.args.words.now c.args.level c.args.t k)) listed_none

pub list_table-list_entry-listed-requires : goal.list_table-list_entry-listed-requires
list_table-list_entry-listed-requires t c =
    let a = c.args in
    let l = c.loop-i in
    let n = rw (table_is a.words.now a.level a.t) at c.requires.room in
    let part = upward_part (λ (k : ℕ). entry_rows a.words.now a.level a.t k) l.i 512 (omega arith) in
    (omega arith, ((omega arith, omega arith, omega arith), omega (arith, l.invariant.count, part, n)))

pub list_table-loop-i-preserved : goal.list_table-loop-i-preserved
list_table-loop-i-preserved t c =
    let a = c.args in
    let l = c.loop-i in
    rw (upward_more (λ (k : ℕ). entry_rows a.words.now a.level a.t k) l.i) (listed_then l.invariant c.list_entry-listed.ensures)

pub list_table-returns : goal.list_table-returns
list_table-returns t c =
    let a = c.args in
    rw (table_upto a.words.now a.level a.t c.loop-i.i (omega arith)) c.loop-i.invariant
