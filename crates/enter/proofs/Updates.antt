-- Functions and lists that change at one place. Assumes nothing.
use mathlib.Core.Path.{◌≡◌, refl, sym, subst}
use mathlib.Core.Bool.{true, false}
use mathlib.Core.List.{List, ◌∷◌}
use Prim.Native.Nat.{ℕ, zero, suc, ◌+◌, ◌≤◌, ◌<◌}
use native.Mathlib.Omega.{arith}
use native.Mathlib.Decide.{ℕ_discrete}
use lib.Dec.{eqb}
use lib.ListN.{length, get_or, set, length-set}
use lib.Seq.{get_or-set_same, get_or-set_other}
use borrow.Author.Tests.{eq-eqb, ne_eqb}
use Rattle.store.specs.Store.{mark}
use Rattle.store.specs.Walk.{slot_word}
use Rattle.walk.proofs.Spans.{Upd}
use Rattle.enter.specs.Enter.{put_slot}

-- what holds at i, and at each number that is not i, holds everywhere
pub at_or : (i : ℕ) {P : ℕ → Type 0} → P i → ((x : ℕ) → (x ≡ i → ⊥) → P x) → (x : ℕ) → P x
at_or i {P} p q x = go (ℕ_discrete x i)
  where
    go : Dec (x ≡ i) → P x
    go (yes e) = subst P (sym e) p
    go (no n) = q x n

-- the function that is v at i and g elsewhere
unfoldable pub put : (ℕ → ℕ) → ℕ → ℕ → ℕ → ℕ
put g i v x = elim (eqb x i) [ true ↦ v | false ↦ g x ]

pub put_upd : (g : ℕ → ℕ) (i v : ℕ) → Upd g (put g i v) i v
unfolding put
put_upd g i v = record { same = rw (eq-eqb i i refl, put); other = λ j n. rw (ne_eqb j i n, put) }

-- ---- lists, by the function that reads them

upd_list : (l : List ℕ) (i v : ℕ) → i < length l → Upd (λ j. get_or l j 0) (λ j. get_or (set l i v) j 0) i v
upd_list l i v h = record { same = get_or-set_same l i v 0 h; other = λ j n. get_or-set_other l i j v 0 n }

-- a mark that is set, and a word that is set in its slot
pub upd_mark : (ms : List ℕ) (i v : ℕ) → i < length ms → Upd (mark ms) (mark (set ms i v)) i v
upd_mark = upd_list

pub upd_slot : (ws : List ℕ) (m v : ℕ) → 2 ≤ m → m < 2 + length ws → Upd (slot_word ws) (slot_word (put_slot ws m v)) m v
unfolding slot_word
upd_slot ws zero v h b = absurd (omega arith)
upd_slot ws (suc zero) v h b = absurd (omega arith)
upd_slot ws (suc (suc m)) v h b = upd_list (0 ∷ 0 ∷ ws) (suc (suc m)) v (omega arith)

pub length_put : (ws : List ℕ) (m v : ℕ) → length (put_slot ws m v) ≡ length ws
length_put ws zero v = refl
length_put ws (suc zero) v = refl
length_put ws (suc (suc m)) v = length-set ws m v
