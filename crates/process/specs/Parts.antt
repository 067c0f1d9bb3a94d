-- Calls made of parts: each part is judged on what the parts before it leave, the first that refuses gives its number, and then no part has changed anything.
use Rattle.std.specs.Prelude.{◌≡◌, ◌⊎◌, true, false, ℕ, zero, suc, Result, Ok, Err}
use Rattle.refusal.specs.declared.Refusal.{Refusal}
use Rattle.store.specs.Store.{Store}
use Rattle.unmap.specs.Unmap.{Unmap}
use Rattle.shrink.specs.Sizes.{pages_to}
use Rattle.release.specs.Free.{Free}

-- part p, and then part q; the answer is that of q
abbrev pub Then : (p q : Store → Result ℕ Refusal → Store → Type 0) → Store → Result ℕ Refusal → Store → Type 0
Then p q s (Err n) s' = (p s (Err n) s ⊎ ((v : ℕ) × (s₁ : Store) × p s (Ok v) s₁ × q s₁ (Err n) s₁)) × (s' ≡ s)
Then p q s (Ok w) s' = (v : ℕ) × (s₁ : Store) × p s (Ok v) s₁ × q s₁ (Ok w) s'

-- the pages from 0 to size rounded up leave with freeing, and then the root is freed; size 0 has no unmapping part
abbrev pub UvmFree : ℕ → ℕ → Store → Result ℕ Refusal → Store → Type 0
UvmFree root zero s r s' = Free s root r s'
UvmFree root (suc size) s r s' = Then (λ t a t'. Unmap t root 0 (pages_to (suc size)) true a t') (λ t a t'. Free t root a t') s r s'

-- the page at va leaves without freeing
abbrev pub UnmapOne : ℕ → ℕ → Store → Result ℕ Refusal → Store → Type 0
UnmapOne root va s r s' = Unmap s root va 1 false r s'

abbrev pub trampoline : ℕ
trampoline = 0x3F_FFFF_F000

abbrev pub trapframe : ℕ
trapframe = 0x3F_FFFF_E000

abbrev pub SharedFree : ℕ → ℕ → Store → Result ℕ Refusal → Store → Type 0
SharedFree root size s r s' = Then (UnmapOne root trampoline) (UvmFree root size) s r s'

abbrev pub ProcFree : ℕ → ℕ → Store → Result ℕ Refusal → Store → Type 0
ProcFree root size s r s' = Then (UnmapOne root trampoline) (Then (UnmapOne root trapframe) (UvmFree root size)) s r s'
