-- What holds of every sequence of calls, from any store.
use Rattle.std.specs.Prelude.{◌≡◌, ◌⊎◌, ◌↔◌, List, ◌∷◌, ◌++◌, length}
use Rattle.address.specs.Answer.{Said, refused}
use Rattle.store.specs.Store.{Store, Sized}
use Rattle.store.specs.WellFormed.{WellFormed}
use Rattle.sequences.specs.Call.{Call, set_up, Lent}
use Rattle.sequences.specs.Numbers.{numbers, Listed}
use Rattle.sequences.specs.Sequence.{Step, Each, last, Sequence, asks}

-- a refusal carries one of the call's numbers and nothing else, and leaves everything lent as it was
pub record Refusal (c : Call) (l : Lent) (a : Said) (l' : Lent) : Type 0 where
  pub listed : Listed a.number (numbers c)
  pub alone : a ≡ refused a.number
  pub same : l' ≡ l

abbrev pub AnsweredOrRefused : Call → Lent → Said → Lent → Type 0
AnsweredOrRefused c l a l' = (a.number ≡ 0) ⊎ Refusal c l a l'

-- each step of every sequence is answered or refused
abbrev pub RefusedOrAnswered : Type 0
RefusedOrAnswered = (s : Store) (xs : List Step) → Sequence s xs → Each AnsweredOrRefused s xs

pub record Sound (s : Store) : Type 0 where
  pub sized : Sized s
  pub formed : WellFormed s

abbrev pub LeavesSound : Call → Lent → Said → Lent → Type 0
LeavesSound c l a l' = Sound l'.store

-- from a sized well-formed store on every store is sized and well formed
abbrev pub Kept : Type 0
Kept = (s : Store) (xs : List Step) → Sound s → Sequence s xs → Each LeavesSound s xs × Sound (last s xs)

-- whatever the slices held, that is so of every sequence that begins with a set-up which is answered
abbrev pub KeptFromSetUp : Type 0
KeptFromSetUp =
    (s : Store) (x : Step) (xs : List Step) → x.ask.call ≡ set_up → x.said.number ≡ 0 → Sequence s (x ∷ xs)
    → Each LeavesSound s (x ∷ xs) × Sound (last s (x ∷ xs))

-- a sequence can be cut anywhere: its parts are sequences, the second from the store that the first leaves
abbrev pub Cut : Type 0
Cut = (s : Store) (xs ys : List Step) → Sequence s (xs ++ ys) ↔ (Sequence s xs × Sequence (last s xs) ys)

-- the same calls with the same buffers from the same store say the same and leave the same
abbrev pub OneSequence : Type 0
OneSequence = (s : Store) (xs ys : List Step) → asks xs ≡ asks ys → Sequence s xs → Sequence s ys → xs ≡ ys

-- the four slices of a store are as long as those of another
pub record AsLong (s s' : Store) : Type 0 where
  pub words : length s'.words ≡ length s.words
  pub tmarks : length s'.tmarks ≡ length s.tmarks
  pub bytes : length s'.bytes ≡ length s.bytes
  pub fmarks : length s'.fmarks ≡ length s.fmarks

-- all that is lent keeps its length
pub record KeepsLengths (c : Call) (l : Lent) (a : Said) (l' : Lent) : Type 0 where
  pub store : AsLong l.store l'.store
  pub buffer : length l'.buffer ≡ length l.buffer

-- at each step of every sequence, refused or not, and so from its first store to its last
abbrev pub Lengths : Type 0
Lengths = (s : Store) (xs : List Step) → Sequence s xs → Each KeepsLengths s xs × AsLong s (last s xs)
