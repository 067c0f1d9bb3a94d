-- What a walk from a root finds. Words are found by their slot, the number by which marks name them: slot m is word m - 2.
use Rattle.std.specs.Prelude.{List, ◌∷◌, ℕ, zero, suc, ◌+◌, ◌-◌, ◌*◌, ◌/◌, ◌%◌, get_or}
use Rattle.store.specs.Store.{Store}

-- the word in slot m; there is no slot 0 and no slot 1, and 0 is read there
unfoldable pub slot_word : List ℕ → ℕ → ℕ
slot_word ws m = get_or (0 ∷ 0 ∷ ws) m 0

-- the table that a pointer entry names
abbrev pub table_of : ℕ → ℕ
table_of e = e / 1024 - 0x10_0000

-- the slot of entry i, below 512, of the table that entry e names; 0, no slot, where e is 0
abbrev pub slot_in : ℕ → ℕ → ℕ
slot_in e i = 512 * (e / 1024) + i + 2 - 512 * 0x10_0000

-- where a gives the word of each slot: the slot that root r's walk reads at depth d, 0 for the 262,144-page group x, 1 for the 512-page block x, 2 for the page x
unfoldable pub slot : (ℕ → ℕ) → ℕ → ℕ → ℕ → ℕ
slot a r zero x = 512 * r + x + 2
slot a r (suc d) x = slot_in (a (slot a r d (x / 512))) (x % 512)

-- what that walk finds there; 0 where nothing is there
unfoldable pub entry_at : Store → ℕ → ℕ → ℕ → ℕ
entry_at s r d x = slot_word s.words (slot (slot_word s.words) r d x)

-- the level-0 word of page p, or 0
abbrev pub resolve : Store → ℕ → ℕ → ℕ
resolve s r p = entry_at s r 2 p
