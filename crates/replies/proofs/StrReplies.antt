-- What the value of `copy_in_str`'s reply tells. Assumes nothing.
use mathlib.Core.Path.{◌≡◌, refl, sym, ap, ◌∙◌}
use mathlib.Core.Bool.{Bool}
use mathlib.Core.List.{List}
use Prim.Native.Nat.{ℕ}
use lib.Dec.{ltb}
use lib.ListN.{length}
use Rattle.std.specs.Prelude.{Result, Ok, Err}
use Rattle.refusal.specs.declared.Refusal.{Refusal}
use Rattle.address.specs.Answer.{said}
use Rattle.store.specs.Store.{Store}
use Rattle.strings.specs.Str.{Str, str_said}
use Rattle.strings.specs.declared.StrRead.{StrRead}
use Rattle.strings.proofs.StrLaws.{zero_met_lem}
use Rattle.replies.specs.Reply.{reply_of}
use Rattle.replies.specs.declared.reply.Reply.{Reply}

-- a zero was met exactly when fewer bytes were written than the buffer is long
pub reply_met : (s : Store) (root va : ℕ) (dst dst' : List ℕ) (n : ℕ) (met : Bool) (r : Reply)
    → Str s root va dst (Ok (record { bytes = n; met = met })) dst' → r ≡ reply_of (str_said (Ok (record { bytes = n; met = met }))) → met ≡ ltb r.value (length dst)
unfolding reply_of str_said
reply_met s root va dst dst' n met r h e =
    h.1.zero ∙ zero_met_lem s root va (length dst) ∙ ap (λ (m : ℕ). ltb m (length dst)) (sym h.1.count ∙ sym (ap (λ (x : Reply). x.value) e))

-- its reply is that of its length
pub str_reply : (a : Result StrRead Refusal) → reply_of (said (λ r. r.bytes) a) ≡ reply_of (str_said a)
unfolding reply_of said str_said
str_reply (Ok r) = refl
str_reply (Err k) = refl
