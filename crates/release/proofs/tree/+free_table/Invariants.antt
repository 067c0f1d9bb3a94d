-- The invariants of the loops.
use mathlib.Core.Path.{◌≡◌}
use Prim.Native.Nat.{◌-◌, ◌≤◌}
use lib.ListN.{length}
use Rattle.release.specs.FreeTree.{trees, children, free_tree}
use Rattle.release.proofs.tree.+free_table.Given as goal

-- the tables below the first e entries are freed
abbrev pub invariant-loop-e : goal.invariant-loop-e
invariant-loop-e l =
    (l.e ≤ 512) × (length l.words ≡ length l.initial.words) × (length l.tmarks ≡ length l.initial.tmarks) × (trees l.words l.tmarks l.n ≡ children (free_tree (l.level - 1)) l.t l.initial.words l.initial.tmarks l.e)

abbrev pub decreases-loop-e : goal.decreases-loop-e
decreases-loop-e l = 512 - l.e

-- the level falls at each call
abbrev pub decreases-free_table : goal.decreases-free_table
decreases-free_table l = l.level
