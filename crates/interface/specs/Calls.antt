-- The promise of each call, said of its reply.
use Rattle.std.specs.Prelude.{Bool, List, ℕ, Result}
use Rattle.refusal.specs.declared.Refusal.{Refusal}
use Rattle.store.specs.Store.{Store}
use Rattle.store.specs.SetUp.{SetUp}
use Rattle.well_formed.specs.Check.{Check}
use Rattle.translate.specs.Translate.{Translate}
use Rattle.translate.specs.Satp.{Satp}
use Rattle.map.specs.Create.{Create}
use Rattle.map.specs.Map.{Map}
use Rattle.unmap.specs.Unmap.{Unmap}
use Rattle.unmap.specs.Clear.{Clear}
use Rattle.grow.specs.Init.{Init}
use Rattle.grow.specs.Grow.{Grow}
use Rattle.shrink.specs.Shrink.{Shrink}
use Rattle.copies.specs.InOut.{In, Out}
use Rattle.strings.specs.Str.{Str}
use Rattle.child.specs.Child.{Child}
use Rattle.strings.specs.declared.StrRead.{StrRead}
use Rattle.release.specs.Free.{Free}
use Rattle.process.specs.Parts.{UvmFree, SharedFree, ProcFree}
use Rattle.replies.specs.Reply.{Replied, StrReplied}
use Rattle.replies.specs.declared.reply.Reply.{Reply}

abbrev pub SetUpReply : Store → Reply → Store → Type 0
SetUpReply s r s' = Replied (λ (a : Result ℕ Refusal). SetUp s a s') r

abbrev pub CheckReply : Store → Reply → Type 0
CheckReply s r = Replied (Check s) r

abbrev pub TranslateReply : Store → ℕ → ℕ → Reply → Type 0
TranslateReply s root va r = Replied (Translate s root va) r

abbrev pub SatpReply : Store → ℕ → Reply → Type 0
SatpReply s root r = Replied (Satp s root) r

abbrev pub CreateReply : Store → Reply → Store → Type 0
CreateReply s r s' = Replied (λ (a : Result ℕ Refusal). Create s a s') r

abbrev pub MapReply : Store → ℕ → ℕ → ℕ → ℕ → ℕ → Reply → Store → Type 0
MapReply s root va pa size perm r s' = Replied (λ (a : Result ℕ Refusal). Map s root va pa size perm a s') r

abbrev pub UnmapReply : Store → ℕ → ℕ → ℕ → Bool → Reply → Store → Type 0
UnmapReply s root va n freeing r s' = Replied (λ (a : Result ℕ Refusal). Unmap s root va n freeing a s') r

abbrev pub ClearReply : Store → ℕ → ℕ → Reply → Store → Type 0
ClearReply s root va r s' = Replied (λ (a : Result ℕ Refusal). Clear s root va a s') r

abbrev pub InitReply : Store → ℕ → List ℕ → Reply → Store → Type 0
InitReply s root src r s' = Replied (λ (a : Result ℕ Refusal). Init s root src a s') r

abbrev pub GrowReply : Store → ℕ → ℕ → ℕ → Reply → Store → Type 0
GrowReply s root old new r s' = Replied (λ (a : Result ℕ Refusal). Grow s root old new a s') r

abbrev pub ShrinkReply : Store → ℕ → ℕ → ℕ → Reply → Store → Type 0
ShrinkReply s root old new r s' = Replied (λ (a : Result ℕ Refusal). Shrink s root old new a s') r

abbrev pub InReply : Store → ℕ → ℕ → List ℕ → Reply → List ℕ → Type 0
InReply s root va dst r dst' = Replied (λ (a : Result ℕ Refusal). In s root va dst a dst') r

abbrev pub OutReply : Store → ℕ → ℕ → List ℕ → Reply → Store → Type 0
OutReply s root va src r s' = Replied (λ (a : Result ℕ Refusal). Out s root va src a s') r

abbrev pub StrReply : Store → ℕ → ℕ → List ℕ → Reply → List ℕ → Type 0
StrReply s root va dst r dst' = StrReplied (λ (a : Result StrRead Refusal). Str s root va dst a dst') r

abbrev pub ChildReply : Store → ℕ → ℕ → ℕ → Reply → Store → Type 0
ChildReply s parent child size r s' = Replied (λ (a : Result ℕ Refusal). Child s parent child size a s') r

abbrev pub FreeReply : Store → ℕ → Reply → Store → Type 0
FreeReply s root r s' = Replied (λ (a : Result ℕ Refusal). Free s root a s') r

abbrev pub UvmFreeReply : Store → ℕ → ℕ → Reply → Store → Type 0
UvmFreeReply s root size r s' = Replied (λ (a : Result ℕ Refusal). UvmFree root size s a s') r

abbrev pub SharedFreeReply : Store → ℕ → ℕ → Reply → Store → Type 0
SharedFreeReply s root size r s' = Replied (λ (a : Result ℕ Refusal). SharedFree root size s a s') r

abbrev pub ProcFreeReply : Store → ℕ → ℕ → Reply → Store → Type 0
ProcFreeReply s root size r s' = Replied (λ (a : Result ℕ Refusal). ProcFree root size s a s') r
