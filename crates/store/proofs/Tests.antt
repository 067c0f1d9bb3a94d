-- Reading what a test promises. Assumes nothing.
use mathlib.Core.Path.{◌≡◌, subst}
use mathlib.Core.Bool.{Bool, true, false, not}
use borrow.Author.Tests.{not-true, not-false}
use Rattle.store.specs.Says.{Says}

-- `if f(..)`: the answer b is what the branch says
pub yes : (b : Bool) {P : Type 0} → b ≡ true → Says b P → P
yes b {P} e s = subst (λ (x : Bool). Says x P) e s

pub no : (b : Bool) {P : Type 0} → b ≡ false → Says b P → P → ⊥
no b {P} e s = subst (λ (x : Bool). Says x P) e s

-- the same for `if !f(..)`: what was left of the branch, and what was taken
pub not_left : (b : Bool) {P : Type 0} → not b ≡ false → Says b P → P
not_left b e s = yes b (not-false b e) s

pub not_taken : (b : Bool) {P : Type 0} → not b ≡ true → Says b P → P → ⊥
not_taken b e s = no b (not-true b e) s

-- an answer to P is one to Q, where each follows from the other
pub says_map : (b : Bool) {P Q : Type 0} → (P → Q) → (Q → P) → Says b P → Says b Q
says_map true f g s = f s
says_map false f g s = λ q. s (g q)
