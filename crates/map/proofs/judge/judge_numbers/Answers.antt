-- `map::judge::judge_numbers` meets its contract. Assumes nothing.
use borrow.Author.Rules.{rules}
use Rattle.map.proofs.NumberLaws.{high, perm_high, above, in_window}
use Rattle.map.proofs.judge.judge_numbers.Goals as goal

pub returns-then-size-gt-MAXVA : goal.returns-then-size-gt-MAXVA
returns-then-size-gt-MAXVA c = let p = c.page_range-range.ensures in high _ _ _ _ _ _ p.from p.upto (search rules)

pub returns-then-perm-gt1023 : goal.returns-then-perm-gt1023
returns-then-perm-gt1023 c = let p = c.page_range-range.ensures in perm_high _ _ _ _ _ _ p.from p.upto c.if-size-gt-MAXVA.false (search rules) c.if-perm-gt1023.true

pub returns-then-past-gt-FRAMES : goal.returns-then-past-gt-FRAMES
returns-then-past-gt-FRAMES c = let p = c.page_range-range.ensures in above _ _ _ _ _ _ p.from p.upto c.if-size-gt-MAXVA.false (search rules) c.if-perm-gt1023.false c.if-end-first.false c.if-past-gt-FRAMES.true

pub returns-then-frame-lt-WINDOW_END : goal.returns-then-frame-lt-WINDOW_END
returns-then-frame-lt-WINDOW_END c = let p = c.page_range-range.ensures in in_window _ _ _ _ _ _ p.from p.upto c.if-size-gt-MAXVA.false (search rules) c.if-perm-gt1023.false c.if-end-first.false c.if-past-gt-FRAMES.false c.if-past-gt-WINDOW.true c.if-frame-lt-WINDOW_END.true
