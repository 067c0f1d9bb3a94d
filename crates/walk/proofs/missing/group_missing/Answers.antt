-- `walk::missing::group_missing` meets its contract. Assumes nothing.
use Rattle.walk.proofs.Groups.{group_none, group_some}
use Rattle.walk.proofs.missing.group_missing.Goals as goal

pub returns-then-top-eq0 : goal.returns-then-top-eq0
returns-then-top-eq0 c =
    let a = c.args in
    let p = c.requires in
    group_none a.words.now a.root a.group _ c.slot_word-top.ensures a.first a.end p.2 p.4 c.if-top-eq0.true

pub returns : goal.returns
returns c =
    let a = c.args in
    let p = c.requires in
    group_some a.words.now a.root a.group _ c.slot_word-top.ensures a.first a.end p.2 p.4 _ c.if-top-eq0.false c.blocks_missing.ensures
