-- What a reply says: the number and the value of document 01, or 0 where there is no value.
use Rattle.std.specs.Prelude.{◌≡◌, ℕ, get_or, Result}
use Rattle.refusal.specs.declared.Refusal.{Refusal}
use Rattle.address.specs.Answer.{Said, number_said}
use Rattle.strings.specs.Str.{str_said}
use Rattle.strings.specs.declared.StrRead.{StrRead}
use Rattle.replies.specs.declared.reply.Reply.{Reply}

-- of two values a reply has the first
unfoldable pub reply_of : Said → Reply
reply_of s = record { number = s.number; value = get_or s.values 0 0 }

-- the reply is that of an answer of which P holds
pub record Replied (P : Result ℕ Refusal → Type 0) (r : Reply) : Type 0 where
  pub answer : Result ℕ Refusal
  pub holds : P answer
  pub says : r ≡ reply_of (number_said answer)

-- the same of an answer of `copy_in_str`
pub record StrReplied (P : Result StrRead Refusal → Type 0) (r : Reply) : Type 0 where
  pub answer : Result StrRead Refusal
  pub holds : P answer
  pub says : r ≡ reply_of (str_said answer)
