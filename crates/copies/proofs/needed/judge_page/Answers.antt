-- `copies::needed::judge_page` meets its contract. Assumes nothing.
use Rattle.std.proofs.Common.{rules, tests}
use Rattle.copies.proofs.PageReasons.{no_6, no_11, no_12, no_15, all_ready}
use Rattle.copies.proofs.needed.judge_page.Goals as goal

pub returns-then-a-ge-MAXVA : goal.returns-then-a-ge-MAXVA
returns-then-a-ge-MAXVA c = no_6 _ _ _ c.if-a-ge-MAXVA.true

pub returns-then-not-matches : goal.returns-then-not-matches
returns-then-not-matches c = no_11 _ _ _ c.requires c.if-a-ge-MAXVA.false _ _ c.slot_of.ensures c.slot_word-e.ensures (search (rules, tests))

pub returns-then-not-matches-2 : goal.returns-then-not-matches-2
returns-then-not-matches-2 c = no_12 _ _ _ c.requires c.if-a-ge-MAXVA.false _ _ c.slot_of.ensures c.slot_word-e.ensures (search (rules, tests)) (search (rules, tests))

pub returns-then-not-matches-3 : goal.returns-then-not-matches-3
returns-then-not-matches-3 c = no_15 _ _ _ c.requires c.if-a-ge-MAXVA.false _ _ c.slot_of.ensures c.slot_word-e.ensures (search (rules, tests)) (search (rules, tests)) (search (rules, tests))

pub returns : goal.returns
returns c = all_ready _ _ _ c.requires c.if-a-ge-MAXVA.false _ _ c.slot_of.ensures c.slot_word-e.ensures (search (rules, tests)) (search (rules, tests)) (search (rules, tests))
