-- What a call that names a root and a page learns on its way. Assumes nothing.
use mathlib.Core.Path.{◌≡◌, sym, ap, ◌∙◌}
use mathlib.Core.Bool.{Bool, true, false}
use Prim.Native.Nat.{ℕ, ◌<◌}
use native.Mathlib.Omega.{arith}
use borrow.Author.Tests.{eqb-true, eqb-false}
use Rattle.address.specs.Field.{bit}
use Rattle.page_table_entry.specs.Layout.{has}
use Rattle.store.specs.Store.{Store, Sized, mark}
use Rattle.store.specs.Walk.{slot_word, slot, entry_at, resolve}
use Rattle.store.proofs.Scans.{in_range}

-- a root is a table of the store
pub root_in : (s : Store) (root : ℕ) → Sized s → mark s.tmarks root ≡ 1 → root < 512
root_in s root z e = omega (arith, in_range s.tmarks root (λ q. omega arith), z.tables_to)

-- the word that was read for a page
pub found : (s : Store) (root p m e : ℕ) → m ≡ slot (slot_word s.words) root 2 p → e ≡ slot_word s.words m → e ≡ resolve s root p
unfolding entry_at
found s root p m e em ee = ee ∙ ap (slot_word s.words) em

-- `if !e.is_..()`: what the bit is where it is left, and where it is taken
module _ (b : Bool) (k e x : ℕ) (eb : b ≡ has k e) (ex : e ≡ x) where
  pub has_yes : b ≡ true → bit k x ≡ 1
  has_yes h = ap (bit k) (sym ex) ∙ eqb-true (bit k e) 1 (sym eb ∙ h)

  pub has_no : b ≡ false → bit k x ≡ 1 → ⊥
  has_no h q = eqb-false (bit k e) 1 (sym eb ∙ h) (ap (bit k) ex ∙ q)
