-- A root of which pages have gone is still a root. Assumes nothing.
use mathlib.Core.Path.{◌≡◌, ap, ◌∙◌}
use mathlib.Core.Bool.{Bool}
use mathlib.Core.List.{List}
use Prim.Native.Nat.{ℕ}
use Rattle.store.specs.Store.{Store, mark}
use Rattle.well_formed.specs.Root.{RootReady}
use Rattle.unmap.specs.Gone.{Gone}

pub still_root : (s : Store) (root p n : ℕ) (freeing : Bool) (s' : Store) → mark s.tmarks root ≡ 1 → Gone s root p n freeing s' → RootReady s' root
still_root s root p n freeing s' r g = record { sized = g.sized; formed = g.well_formed; is_root = ap (λ (l : List ℕ). mark l root) g.tmarks ∙ r }
