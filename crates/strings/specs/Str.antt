-- `copy_in_str`: reading goes on up to the first zero byte or to the end of the buffer, and looks at no page behind that.
use Rattle.std.specs.Prelude.{◌≡◌, Bool, true, false, cond, List, [], ◌∷◌, ◌++◌, ℕ, zero, suc, ◌+◌, ◌<◌, eqb, length, drop, Result, Ok, Err}
use Rattle.refusal.specs.declared.Refusal.{Refusal}
use Rattle.refusal.specs.Number.{number_of}
use Rattle.address.specs.Answer.{Said, refused}
use Rattle.store.specs.Store.{Store}
use Rattle.store.specs.Outcome.{Smallest, NoReason}
use Rattle.well_formed.specs.Root.{RootReason}
use Rattle.strings.specs.declared.StrRead.{StrRead}
use Rattle.copies.specs.Bytes.{byte_at, bytes_at}
use Rattle.copies.specs.Needed.{PageReason, Needs}

-- what the answer of `copy_in_str` says on paper: the bytes written, and 1 where a zero was met and 0 where not
unfoldable pub str_said : Result StrRead Refusal → Said
str_said (Ok r) = record { number = 0; values = r.bytes ∷ cond r.met 1 0 ∷ [] }
str_said (Err k) = refused (number_of k)

-- the byte at address a can be read and is not zero
pub record Passed (s : Store) (r a : ℕ) : Type 0 where
  pub page : NoReason (PageReason s r a)
  pub more : byte_at s r a ≡ 0 → ⊥

-- at most n bytes from va on: 1, 2, 3; 6, 11, 12 or 15 for the first page on the way that cannot be read
pub data StrReason (s : Store) (root va n : ℕ) : ℕ → Type 0 where
  at_root : {k : ℕ} → RootReason s root k → StrReason s root va n k
  page : {k : ℕ} (i : ℕ) → Needs n i → ((j : ℕ) → j < i → Passed s root (va + j)) → PageReason s root (va + i) k → StrReason s root va n k

-- how many of at most n bytes from va on come before the first zero, and whether this was met
unfoldable pub str_length : Store → ℕ → ℕ → ℕ → ℕ
str_length s r va zero = 0
str_length s r va (suc n) = cond (eqb (byte_at s r va) 0) 0 (suc (str_length s r (suc va) n))

unfoldable pub zero_met : Store → ℕ → ℕ → ℕ → Bool
zero_met s r va zero = false
zero_met s r va (suc n) = cond (eqb (byte_at s r va) 0) true (zero_met s r (suc va) n)

-- the bytes before the zero are written, and the rest of the buffer stays; the answer is their number and whether a zero was met
pub record StrDone (s : Store) (root va : ℕ) (dst : List ℕ) (n : ℕ) (met : Bool) (dst' : List ℕ) : Type 0 where
  pub count : n ≡ str_length s root va (length dst)
  pub zero : met ≡ zero_met s root va (length dst)
  pub buffer : dst' ≡ bytes_at s root va n ++ drop n dst

-- where following the bytes meets no refusal: n of them come before the zero or the end
pub record Measured (s : Store) (root va max n : ℕ) (met : Bool) : Type 0 where
  pub clear : NoReason (StrReason s root va max)
  pub count : n ≡ str_length s root va max
  pub zero : met ≡ zero_met s root va max

-- what following the bytes says: the first page's refusal, or the way
abbrev pub Measures : Store → ℕ → ℕ → ℕ → Result StrRead Refusal → Type 0
Measures s root va max (Err k) = Smallest (StrReason s root va max) (number_of k)
Measures s root va max (Ok r) = Measured s root va max r.bytes r.met

-- the store is lent for reading
abbrev pub Str : Store → ℕ → ℕ → List ℕ → Result StrRead Refusal → List ℕ → Type 0
Str s root va dst (Err k) dst' = Smallest (StrReason s root va (length dst)) (number_of k) × (dst' ≡ dst)
Str s root va dst (Ok r) dst' = NoReason (StrReason s root va (length dst)) × StrDone s root va dst r.bytes r.met dst'
