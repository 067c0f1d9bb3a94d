-- The dump of a root: its tree as lines, in document 01's order. It changes nothing.
use Rattle.std.specs.Prelude.{◌≡◌, List, [], ◌∷◌, ◌++◌, ℕ, zero, suc, ◌+◌, ◌*◌, ◌≤◌, length, Result, Ok, Err}
use Rattle.refusal.specs.declared.Refusal.{Refusal}
use Rattle.store.specs.Store.{Store, word}
use Rattle.store.specs.Walk.{table_of}
use Rattle.store.specs.Outcome.{Outcome}
use Rattle.well_formed.specs.Root.{RootReason}
use Rattle.text.specs.declared.text.Text.{Text}
use Rattle.text.specs.Text.{row_text, said, Wrote}

-- a line: level, index, word
pub record Row : Type 0 where
  pub level : ℕ
  pub index : ℕ
  pub word : ℕ

-- f 0, .., f (n - 1), one after the other
unfoldable pub upward : (ℕ → List Row) → ℕ → List Row
upward f zero = []
upward f (suc n) = upward f n ++ f n

-- an entry that is 0 is not listed; any other is, and what stands below it follows
unfoldable pub entry : ℕ → ℕ → ℕ → List Row → List Row
entry l i zero below = []
entry l i (suc x) below = record { level = l; index = i; word = suc x } ∷ below

-- the entries of table t of level l, upward; at levels 2 and 1 an entry points to a table of the level below, which is listed right after it
unfoldable pub table : List ℕ → ℕ → ℕ → List Row
table ws zero t = upward (λ (i : ℕ). entry 0 i (word ws (512 * t + i)) []) 512
table ws (suc l) t = upward (λ (i : ℕ). entry (suc l) i (word ws (512 * t + i)) (table ws l (table_of (word ws (512 * t + i))))) 512

-- what stands below an entry e of level l: its table, and nothing at level 0
unfoldable pub below : List ℕ → ℕ → ℕ → List Row
below ws zero e = []
below ws (suc l) e = table ws l (table_of e)

abbrev pub entry_rows : List ℕ → ℕ → ℕ → ℕ → List Row
entry_rows ws l t i = entry l i (word ws (512 * t + i)) (below ws l (word ws (512 * t + i)))

-- the lines as text
unfoldable pub rows_text : List Row → List ℕ
rows_text [] = []
rows_text (r ∷ rs) = row_text r.level r.index r.word ++ rows_text rs

-- the rows of a root, whose level is 2
abbrev pub root_rows : Store → ℕ → List Row
root_rows s root = table s.words 2 root

-- the answer is the number of entries listed; it is refused with 1, 2 and 3 alone
abbrev pub DumpDone : Store → ℕ → ℕ → Store → Type 0
DumpDone s root v s' = (v ≡ length (root_rows s root)) × (s' ≡ s)

abbrev pub Dump : Store → ℕ → Result ℕ Refusal → Type 0
Dump s root r = Outcome (RootReason s root) (DumpDone s root) s r s

-- what is listed before the answer's line: nothing where the dump is refused
unfoldable pub listed : Store → ℕ → Result ℕ Refusal → List ℕ
listed s root (Ok v) = rows_text (root_rows s root)
listed s root (Err n) = []

-- the rows stand in t' behind the text of t, and are counted on from n
pub record Listed (t : Text) (n : ℕ) (rows : List Row) (t' : Text) (n' : ℕ) : Type 0 where
  pub wrote : Wrote t (rows_text rows) t'
  pub count : n' ≡ n + length rows
  pub short : length (rows_text rows) ≤ 27 * length rows

-- the call as a whole: what it answers, and the text that it leaves in t' behind that of t, which is short
pub record Dumped (s : Store) (root : ℕ) (t t' : Text) : Type 0 where
  pub answer : Result ℕ Refusal
  pub holds : Dump s root answer
  pub wrote : Wrote t (listed s root answer ++ said answer) t'
  pub short : length (listed s root answer ++ said answer) ≤ 13824 * length s.tmarks + 24
