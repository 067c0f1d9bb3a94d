-- `copy_in` and `copy_out`: what becomes of the kernel's buffer, and of the frame bytes.
use Rattle.std.specs.Prelude.{◌≡◌, List, ℕ, length, Result}
use Rattle.refusal.specs.declared.Refusal.{Refusal}
use Rattle.store.specs.Store.{Store, store_of}
use Rattle.store.specs.Outcome.{Outcome}
use Rattle.copies.specs.Bytes.{bytes_at, written}
use Rattle.copies.specs.Needed.{CopyReason}

-- the buffer holds the bytes from va on, as many as it is long; the answer names no value, and it is 0
abbrev pub InDone : Store → ℕ → ℕ → List ℕ → ℕ → List ℕ → Type 0
InDone s root va dst v dst' = (v ≡ 0) × (dst' ≡ bytes_at s root va (length dst))

-- the store is lent for reading
abbrev pub In : Store → ℕ → ℕ → List ℕ → Result ℕ Refusal → List ℕ → Type 0
In s root va dst r dst' = Outcome (CopyReason s root va (length dst)) (InDone s root va dst) dst r dst'

-- the source is written to the addresses from va on; the answer names no value, and it is 0
abbrev pub OutDone : Store → ℕ → ℕ → List ℕ → ℕ → Store → Type 0
OutDone s root va src v s' = (v ≡ 0) × (s' ≡ store_of s.words s.tmarks (written s root va src s.bytes) s.fmarks)

abbrev pub Out : Store → ℕ → ℕ → List ℕ → Result ℕ Refusal → Store → Type 0
Out s root va src r s' = Outcome (CopyReason s root va (length src)) (OutDone s root va src) s r s'
