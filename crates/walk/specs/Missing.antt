-- The tables that a range of pages lacks.
use Rattle.std.specs.Prelude.{List, ℕ, zero, suc, ◌+◌, ◌-◌, ◌/◌, ◌%◌}
use Rattle.store.specs.Store.{Store}
use Rattle.store.specs.Count.{zeros}
use Rattle.store.specs.Walk.{slot_word, slot_in, slot}

-- how many of g b .. g c, with b at most c, are 0
unfoldable pub span : (ℕ → ℕ) → ℕ → ℕ → ℕ
span g b c = zeros g (suc c - b) b

-- what root r's walk finds at depth d for x, from the words alone: `entry_at` of a store with these words
abbrev pub entry_in : List ℕ → ℕ → ℕ → ℕ → ℕ
entry_in ws r d x = slot_word ws (slot (slot_word ws) r d x)

-- the tables that pages p .. p + n - 1 of root r lack: one for each 262,144-page group of them and one for each 512-page block of them whose entry is 0
unfoldable pub missing_in : List ℕ → ℕ → ℕ → ℕ → ℕ
missing_in ws r p zero = 0
missing_in ws r p (suc n) = span (entry_in ws r 0) (p / 512 / 512) ((p + n) / 512 / 512) + span (entry_in ws r 1) (p / 512) ((p + n) / 512)

unfoldable pub missing : Store → ℕ → ℕ → ℕ → ℕ
missing s r p n = missing_in s.words r p n

-- the entry for x in the table that entry e names
abbrev pub entry_under : List ℕ → ℕ → ℕ → ℕ
entry_under ws e x = slot_word ws (slot_in e (x % 512))
