-- Why pages may not leave is said by their words, and is the same in another store where these are the same. Assumes nothing.
use mathlib.Core.Path.{◌≡◌, sym, ap, ◌∙◌}
use mathlib.Core.Bool.{Bool}
use Prim.Native.Nat.{ℕ, ◌+◌, ◌<◌}
use lib.ListN.{length}
use native.Mathlib.Omega.{arith}
use Rattle.address.specs.Field.{bit}
use Rattle.page_table_entry.specs.Layout.{bit_v, flags}
use Rattle.store.specs.Store.{Store, frame_no}
use Rattle.store.specs.Walk.{resolve}
use Rattle.store.specs.Outcome.{Smallest}
use Rattle.unmap.specs.Leave.{MeetsPool, LeaveReason, pooled, unmapped, bare, LeaveReady}

-- the words of the pages are the same in s and t, and so is the number of frames
pub record SamePages (s t : Store) (r p n : ℕ) : Type 0 where
  pub pages : (i : ℕ) → i < n → resolve t r (p + i) ≡ resolve s r (p + i)
  pub frames : length t.fmarks ≡ length s.fmarks

turned : {s t : Store} {r p n : ℕ} → SamePages s t r p n → SamePages t s r p n
turned e = record { pages = λ i l. sym (e.pages i l); frames = sym e.frames }

module _ {s t : Store} {r p n : ℕ} (e : SamePages s t r p n) (freeing : Bool) where
  meets : MeetsPool s r p n freeing → MeetsPool t r p n freeing
  meets (f, i, l, q) = (f, i, l, record { frame = q.frame; there = omega (arith, q.there, e.frames); number = ap frame_no (e.pages i l) ∙ q.number })

  carried : (k : ℕ) → LeaveReason s r p n freeing k → LeaveReason t r p n freeing k
  carried k (pooled m) = pooled (meets m)
  carried k (unmapped i l h) = unmapped i l (λ m. h (ap (bit bit_v) (sym (e.pages i l)) ∙ m))
  carried k (bare i l h) = bare i l (ap flags (e.pages i l) ∙ h)

module _ {s t : Store} {r p n : ℕ} (e : SamePages s t r p n) (freeing : Bool) where
  pub ready_same : LeaveReady s r p n freeing → LeaveReady t r p n freeing
  ready_same f = record {
    foreign = λ m. f.foreign (meets (turned e) freeing m);
    mapped = λ i l. ap (bit bit_v) (e.pages i l) ∙ f.mapped i l;
    full = λ i l h. f.full i l (ap flags (sym (e.pages i l)) ∙ h);
  }

  pub smallest_same : (k : ℕ) → Smallest (LeaveReason s r p n freeing) k → Smallest (LeaveReason t r p n freeing) k
  smallest_same k m = record { applies = carried e freeing k m.applies; least = λ i l q. m.least i l (carried (turned e) freeing i q) }
