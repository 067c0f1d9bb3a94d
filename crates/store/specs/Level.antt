-- The level of a table, by the marks: 2 for a root, one less than that of the table which holds the word of its mark, 3 for none.
use Rattle.std.specs.Prelude.{List, ℕ, zero, suc, ◌-◌, ◌/◌}
use Rattle.store.specs.Store.{mark}

-- the table that holds the word which mark m names, word m - 2
abbrev pub home : ℕ → ℕ
home m = (m - 2) / 512

-- one less than level 2 or 1; below any other there is none
abbrev pub lower : ℕ → ℕ
lower zero = 3
lower (suc zero) = 0
lower (suc (suc zero)) = 1
lower (suc (suc (suc l))) = 3

-- the level of a table with this mark, whose word lies in a table of level l
abbrev pub under : ℕ → ℕ → ℕ
under zero l = 3
under (suc zero) l = 2
under (suc (suc m)) l = lower l

-- the level of table t, looking at no more than n marks
unfoldable pub climb : (ℕ → ℕ) → ℕ → ℕ → ℕ
climb k zero t = 3
climb k (suc n) t = under (k t) (climb k n (home (k t)))

-- three marks are enough, since a level is 2, 1 or 0
unfoldable pub level : List ℕ → ℕ → ℕ
level ms t = climb (mark ms) 3 t
