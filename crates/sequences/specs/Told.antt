-- A reply as what is said at a step of a sequence of calls.
use Rattle.std.specs.Prelude.{◌≡◌}
use Rattle.address.specs.Answer.{Said}
use Rattle.sequences.specs.Call.{Call, Lent}
use Rattle.sequences.specs.Answers.{Answers}
use Rattle.replies.specs.Reply.{reply_of}
use Rattle.replies.specs.declared.Reply.{Reply}

-- the reply is that of something said of which P holds
pub record Told (P : Said → Type 0) (r : Reply) : Type 0 where
  pub said : Said
  pub holds : P said
  pub says : r ≡ reply_of said

-- l is lent to the call, r is replied, and l' is left, as the call may
abbrev pub Tells : Call → Lent → Reply → Lent → Type 0
Tells c l r l' = Told (λ (a : Said). Answers c l a l') r
