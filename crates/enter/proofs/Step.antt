-- A step of the work, in which one entry changes: what holds afterwards, and facts that all steps need. Assumes nothing.
use mathlib.Core.Path.{◌≡◌, refl}
use mathlib.Core.Logic.{by_cases, ◌↔◌}
use Prim.Native.Nat.{ℕ, zero, suc, ◌+◌, ◌-◌, ◌%◌, ◌≤◌, ◌<◌}
use native.Mathlib.Omega.{arith}
use native.Mathlib.Decide.{dec_lt}
use lib.ListN.{length, get_or-eq_default}
use Rattle.store.specs.Store.{Store, Sized, mark}
use Rattle.store.specs.Level.{home, level}
use Rattle.store.specs.Walk.{slot_word, slot, entry_at}
use Rattle.store.proofs.Tree.{TreeOf, top}

-- s' differs from s in one entry, the one that root r's walk reads at depth d for x; all other walks find what they found before
pub record Step (s s' : Store) (r d x : ℕ) : Type 0 where
  pub sized : Sized s'
  pub tree : TreeOf s'
  pub roots : (t : ℕ) → (mark s.tmarks t ≡ 1) ↔ (mark s'.tmarks t ≡ 1)
  pub bytes : s'.bytes ≡ s.bytes
  pub fmarks : s'.fmarks ≡ s.fmarks
  pub place : slot (slot_word s'.words) r d x ≡ slot (slot_word s.words) r d x
  pub rest : (r' d' x' : ℕ) → mark s.tmarks r' ≡ 1 → top d' x' < 256 → d' ≤ 2 → (d' ≡ d → r' ≡ r → x' ≡ x → ⊥) → entry_at s' r' d' x' ≡ entry_at s r' d' x'

module _ (s : Store) (z : Sized s) (w : TreeOf s) where
  -- a slot that lies in a table in use is that of a word of the slice
  pub in_words : (m : ℕ) → 2 ≤ m → level s.tmarks (home m) ≤ 2 → m < 2 + length s.words
  in_words m h l =
      by_cases (dec_lt (home m) (length s.tmarks)) (λ q. omega (arith, z.words))
      (λ q. absurd (omega (arith, w.free (home m) (get_or-eq_default s.tmarks 0 (omega arith)))))

  -- a slot of a free table holds 0
  pub free_zero : (m : ℕ) → mark s.tmarks (home m) ≡ 0 → slot_word s.words m ≡ 0
  free_zero m e =
      by_cases (dec_lt 0 (slot_word s.words m)) (λ p. absurd (omega (arith, w.used m p, w.free (home m) e))) (λ n. omega arith)

  -- no change at all
  pub stay : (r d x : ℕ) → Step s s r d x
  stay r d x = record { sized = z; tree = w; roots = λ t. (λ e. e, λ e. e); bytes = refl; fmarks = refl; place = refl; rest = λ r' d' x' rr h b n. refl }

-- walks for pages below 2 ^ 26 start in the lower half of the root
pub lower_half : (a : ℕ → ℕ) (r d x : ℕ) → top d x < 256 → d ≡ 0 → (slot a r d x - 2) % 512 < 256
unfolding slot top
lower_half a r zero x h e = omega arith
lower_half a r (suc d) x h e = absurd (omega arith)
