-- Which case of a definition by tests a fact picks, and what a caller learns of an answer that it took apart. Assumes nothing.
use mathlib.Core.Path.{◌≡◌, sym, ap, ◌∙◌}
use mathlib.Core.Logic.{by_cases}
use Prim.Native.Nat.{ℕ, ◌+◌, ◌-◌, ◌^◌, ◌<◌, ◌≤◌}
use native.Mathlib.Decide.{dec_lt}
use native.Mathlib.Omega.{arith}
use lib.ListN.{get_or, length}
use borrow.Author.Tests.{lt-ltb, le-ltb, le-leb, lt-leb}
use Rattle.std.specs.Prelude.{Option, Some, None}
use Rattle.std.specs.Option.{SomeIff, ok_or}
use Rattle.refusal.specs.declared.Refusal.TheVariants.{TooHigh}
use Rattle.address.specs.Page.{down, up, index}
use Rattle.address.specs.Answer.{Said, answered, refused, said, within64, at_least0, index_at}

pub held : {v : ℕ} → v < 2 ^ 64 → answered v ≡ within64 v
unfolding within64
held {v} h = simp (lt-ltb v (2 ^ 64) h)

pub outside : {v : ℕ} → 2 ^ 64 ≤ v → refused 6 ≡ within64 v
unfolding within64
outside {v} h = simp (le-ltb v (2 ^ 64) h)

pub reached : {a b : ℕ} → b ≤ a → answered (a - b) ≡ at_least0 a b
unfolding at_least0
reached {a} {b} h = simp (le-leb b a h)

pub below : {a b : ℕ} → a < b → refused 6 ≡ at_least0 a b
unfolding at_least0
below {a} {b} h = simp (lt-leb b a h)

pub indexed : {level : ℕ} (va : ℕ) → level ≤ 2 → answered (index level va) ≡ index_at level va
unfolding index_at
indexed {level} va h = simp (le-leb level 2 h)

pub too_high : {level : ℕ} (va : ℕ) → 2 < level → refused 6 ≡ index_at level va
unfolding index_at
too_high {level} va h = simp (lt-leb level 2 h)

pub value : {v w : ℕ} → answered v ≡ answered w → v ≡ w
value e = ap (λ (s : Said). get_or s.values 0 0) e

pub clash : {n v : ℕ} → refused n ≡ answered v → ⊥
clash e = let z : ◌≡◌ {A = ℕ} 0 1 = ap (λ (s : Said). length s.values) e in omega arith

-- a checked sum, and a checked difference
pub summed : (v : ℕ) (o : Option ℕ) → SomeIff o (v < 2 ^ 64) v → said (λ n. n) (ok_or o TooHigh) ≡ within64 v
unfolding said
summed v None h = outside (omega (arith, h))
summed v (Some x) h = ap answered h.1 ∙ held h.0

pub lessened : (a b : ℕ) (o : Option ℕ) → SomeIff o (b ≤ a) (a - b) → said (λ n. n) (ok_or o TooHigh) ≡ at_least0 a b
unfolding said
lessened a b None h = below (omega (arith, h))
lessened a b (Some x) h = ap answered h.1 ∙ reached h.0

-- a sum that is then rounded down, and one that 64 bits do not hold
pub then_down : {v : ℕ} (a : ℕ) → answered v ≡ within64 (a + 4095) → answered (down v) ≡ within64 (up a)
then_down {v} a e =
    by_cases (dec_lt (a + 4095) (2 ^ 64)) (λ h. let q : v ≡ a + 4095 = value (e ∙ sym (held h)) in ap (λ (x : ℕ). answered (down x)) q ∙ held (omega arith))
    (λ h. absurd (clash (outside {v = a + 4095} (omega arith) ∙ sym e)))

pub then_outside : {n : ℕ} (a : ℕ) → refused n ≡ within64 (a + 4095) → refused n ≡ within64 (up a)
then_outside {n} a e =
    by_cases (dec_lt (a + 4095) (2 ^ 64)) (λ h. absurd (clash (e ∙ sym (held h)))) (λ h. e ∙ sym (outside {v = a + 4095} (omega arith)) ∙ outside {v = up a} (omega arith))
