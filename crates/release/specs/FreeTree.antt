-- Freeing in order: the tables below a table first, then the table.
use Rattle.std.specs.Prelude.{cond, List, ◌++◌, ℕ, zero, suc, ◌+◌, ◌*◌, ltb, length, take, drop, set, replicate}
use Rattle.store.specs.Store.{word, frame_no}
use Rattle.store.specs.Walk.{table_of}

-- words and marks afterwards, and how many tables were given back
pub record Trees : Type 0 where
  pub words : List ℕ
  pub tmarks : List ℕ
  pub count : ℕ

abbrev pub trees : List ℕ → List ℕ → ℕ → Trees
trees ws ms n = record { words = ws; tmarks = ms; count = n }

-- the 512 words of table t become 0
abbrev pub zeroed : List ℕ → ℕ → List ℕ
zeroed ws t = take (512 * t) ws ++ (replicate 512 0 ++ drop 512 (drop (512 * t) ws))

-- table t becomes zero and free
abbrev pub wipe : ℕ → Trees → Trees
wipe t s = trees (zeroed s.words t) (set s.tmarks t 0) (s.count + 1)

-- what was given back in s, and then in r
abbrev pub add : Trees → Trees → Trees
add s r = trees r.words r.tmarks (s.count + r.count)

-- f frees the table that word x names, where it names one
unfoldable pub child : (ℕ → List ℕ → List ℕ → Trees) → ℕ → Trees → Trees
child f x s =
    cond (ltb (frame_no x) 0x10_0000) s (cond (ltb (table_of x) (length s.tmarks)) (add s (f (table_of x) s.words s.tmarks)) s)

-- the first e entries of table t, upward
unfoldable pub children : (ℕ → List ℕ → List ℕ → Trees) → ℕ → List ℕ → List ℕ → ℕ → Trees
children f t ws ms zero = trees ws ms 0
children f t ws ms (suc e) = let s : Trees = children f t ws ms e in child f (word s.words (512 * t + e)) s

-- table t of a level, the level falling
unfoldable pub free_tree : ℕ → ℕ → List ℕ → List ℕ → Trees
free_tree zero t ws ms = wipe t (trees ws ms 0)
free_tree (suc l) t ws ms = wipe t (children (free_tree l) t ws ms 512)
