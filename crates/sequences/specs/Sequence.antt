-- Calls one after another: each begins with the store that the one before it left.
use Rattle.std.specs.Prelude.{List, [], ◌∷◌, ℕ}
use Rattle.address.specs.Answer.{Said}
use Rattle.store.specs.Store.{Store}
use Rattle.sequences.specs.Call.{Call, Lent, lent}
use Rattle.sequences.specs.Answers.{Answers}

-- what is asked at a step: the call, and the buffer that is lent to it beside the store
pub record Ask : Type 0 where
  pub call : Call
  pub buffer : List ℕ

-- a step: what is asked, what is said, and what is left
pub record Step : Type 0 where
  pub ask : Ask
  pub said : Said
  pub left : Lent

-- R holds of the call, of what was lent to it, of what it said and of what it left, at each of these steps from store s on
abbrev pub Each : (R : Call → Lent → Said → Lent → Type 0) → Store → List Step → Type 0
Each R s [] = Unit
Each R s (x ∷ xs) = R x.ask.call (lent s x.ask.buffer) x.said x.left × Each R x.left.store xs

-- the store that these steps leave
abbrev pub last : Store → List Step → Store
last s [] = s
last s (x ∷ xs) = last x.left.store xs

-- every call keeps its promise
abbrev pub Sequence : Store → List Step → Type 0
Sequence s xs = Each Answers s xs

-- what was asked at each step
unfoldable pub asks : List Step → List Ask
asks [] = []
asks (x ∷ xs) = x.ask ∷ asks xs
