-- Which byte lies at which address of a root.
use Rattle.std.specs.Prelude.{◌≡◌, List, [], ◌∷◌, ℕ, zero, suc, ◌+◌, ◌-◌, ◌*◌, ◌/◌, ◌%◌, ◌^◌, ◌≤◌, ◌<◌, get_or, set}
use Rattle.store.specs.Store.{Store, store_of, frame_no}
use Rattle.store.specs.Walk.{resolve}
use Rattle.walk.specs.Missing.{entry_in}

-- the number of that byte among the frame bytes, where the page of the address has a pool frame: the frame's first byte and the offset in the page
abbrev pub place_at : Store → ℕ → ℕ → ℕ
place_at s r va = 4096 * (frame_no (resolve s r (va / 4096)) - 0x11_0000) + va % 4096

-- the byte
abbrev pub byte_at : Store → ℕ → ℕ → ℕ
byte_at s r va = get_or s.bytes (place_at s r va) 0

-- the n bytes from va on
unfoldable pub bytes_at : Store → ℕ → ℕ → ℕ → List ℕ
bytes_at s r va zero = []
bytes_at s r va (suc n) = byte_at s r va ∷ bytes_at s r (suc va) n

-- the frame bytes bs after b has been written to the addresses from va on, upward
unfoldable pub written : Store → ℕ → ℕ → List ℕ → List ℕ → List ℕ
written s r va [] bs = bs
written s r va (x ∷ b) bs = written s r (suc va) b (set bs (place_at s r va) x)

-- what finding the place of the byte at address a asks of the words: the page resolves to a frame of the pool's part of the held window
pub record Placed (ws : List ℕ) (r a : ℕ) : Type 0 where
  pub is_root : r < 512
  pub below : a < 2 ^ 38
  pub from : 0x11_0000 ≤ frame_no (entry_in ws r 2 (a / 4096))
  pub upto : frame_no (entry_in ws r 2 (a / 4096)) < 0x12_0000

-- x is that place in every store with these words
abbrev pub IsPlace : List ℕ → ℕ → ℕ → ℕ → Type 0
IsPlace ws r a x = (ms bs fs : List ℕ) → x ≡ place_at (store_of ws ms bs fs) r a
