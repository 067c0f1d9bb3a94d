-- A pool frame has one owner: two addresses whose bytes have one place are the same address of the same root. Assumes nothing.
use mathlib.Core.Path.{◌≡◌}
use Prim.Native.Nat.{ℕ, ◌/◌, ◌%◌, ◌^◌, ◌<◌}
use native.Mathlib.Omega.{arith}
use Rattle.store.specs.Store.{Store, Sized, mark, frame_no, pool_no}
use Rattle.store.specs.WellFormed.{WellFormed}
use Rattle.store.specs.Walk.{resolve}
use Rattle.store.proofs.Tree.{tree_of}
use Rattle.unmap.specs.Leave.{PoolFrame}
use Rattle.copies.specs.Bytes.{place_at}
use Rattle.copies.proofs.OneOwner.{one_page}

module _ (s : Store) (z : Sized s) (c : WellFormed s) where
  -- a page of a root, with a pool frame
  pub record HasFrame (r p : ℕ) : Type 0 where
    pub is_root : mark s.tmarks r ≡ 1
    pub below : p < 2 ^ 26
    pub frame : PoolFrame s (resolve s r p)

  pub one_address : (r a r' a' : ℕ) → HasFrame r (a / 4096) → HasFrame r' (a' / 4096) → place_at s r a ≡ place_at s r' a' → (r ≡ r') × (a ≡ a')
  one_address r a r' a' h h' e =
      let x : frame_no (resolve s r' (a' / 4096)) ≡ pool_no h.frame.frame = omega (arith, h.frame.number, h'.frame.number) in
      let y : a % 4096 ≡ a' % 4096 = omega arith in
      let u = one_page s z (tree_of s z c) r (a / 4096) r' (a' / 4096) h.frame.frame h.is_root h'.is_root h.below h'.below h.frame.there h.frame.number x in
      (u.0, omega (arith, u.1, y))
