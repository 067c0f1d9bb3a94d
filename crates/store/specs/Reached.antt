-- How many tables, and how many words that name a pool frame, a walk down from the roots meets. The walk looks at the words
-- alone, and at the marks only for which tables are roots. What it meets twice it counts twice; how often it meets one table,
-- and one frame, is at the end.
use Rattle.std.specs.Prelude.{cond, List, ℕ, zero, suc, ◌+◌, ◌*◌, ltb, length}
use Rattle.store.specs.Store.{Store, word, mark, frame_no, pool_no}
use Rattle.store.specs.Sum.{sum, same}
use Rattle.store.specs.Walk.{table_of}

-- f of the table that the word e points to, and 0 where e is 0
unfoldable pub child : (ℕ → ℕ) → ℕ → ℕ
child f zero = 0
child f (suc e) = f (table_of (suc e))

-- how many tables a walk down from table t of level l meets, t included
unfoldable pub tables_below : List ℕ → ℕ → ℕ → ℕ
tables_below ws zero t = 1
tables_below ws (suc l) t = 1 + sum (λ i. child (tables_below ws l) (word ws (512 * t + i))) 512

-- 1 where the word e names one of the n pool frames, else 0
unfoldable pub in_pool : ℕ → ℕ → ℕ
in_pool n e = cond (ltb (frame_no e) (pool_no 0)) 0 (cond (ltb (frame_no e) (pool_no n)) 1 0)

-- how many words that name one of the n pool frames a walk down from table t of level l meets
unfoldable pub frames_below : List ℕ → ℕ → ℕ → ℕ → ℕ
frames_below ws n zero t = sum (λ i. in_pool n (word ws (512 * t + i))) 512
frames_below ws n (suc l) t = sum (λ i. child (frames_below ws n l) (word ws (512 * t + i))) 512

-- the same from all roots, which are the tables of mark 1 and have level 2
abbrev pub reached_tables : Store → ℕ
reached_tables s = sum (λ t. same (mark s.tmarks t) 1 * tables_below s.words 2 t) (length s.tmarks)

abbrev pub reached_frames : Store → ℕ
reached_frames s = sum (λ t. same (mark s.tmarks t) 1 * frames_below s.words (length s.fmarks) 2 t) (length s.tmarks)

-- how often a walk down from table t of level l meets table u, and how often a word that names pool frame f
unfoldable pub meets_table : List ℕ → ℕ → ℕ → ℕ → ℕ
meets_table ws u zero t = same t u
meets_table ws u (suc l) t = same t u + sum (λ i. child (meets_table ws u l) (word ws (512 * t + i))) 512

unfoldable pub meets_frame : List ℕ → ℕ → ℕ → ℕ → ℕ
meets_frame ws f zero t = sum (λ i. same (frame_no (word ws (512 * t + i))) (pool_no f)) 512
meets_frame ws f (suc l) t = sum (λ i. child (meets_frame ws f l) (word ws (512 * t + i))) 512

-- the same from all roots
abbrev pub table_met : Store → ℕ → ℕ
table_met s u = sum (λ t. same (mark s.tmarks t) 1 * meets_table s.words u 2 t) (length s.tmarks)

abbrev pub frame_met : Store → ℕ → ℕ
frame_met s f = sum (λ t. same (mark s.tmarks t) 1 * meets_frame s.words f 2 t) (length s.tmarks)
