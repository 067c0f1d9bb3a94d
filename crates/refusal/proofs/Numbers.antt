-- A refusal's number tells which it is, and is not 0. Assumes nothing.
use mathlib.Core.Path.{◌≡◌, refl, sym, ap, ◌∙◌}
use Prim.Native.Nat.{ℕ}
use Rattle.std.specs.Prelude.{cond, eqb}
use native.Mathlib.Omega.{arith}
use Rattle.refusal.specs.declared.Refusal.{Refusal}
use Rattle.refusal.specs.declared.Refusal.TheVariants.{Sizes, NotWellFormed, NoRoot, SameRoot, LongSource, TooHigh, NotAligned, Permissions, FrameTooHigh, HeldWindow, NotMapped, NotUser, OnlyValid, MappedAlready, NoPoolFrame, TooFewFrames, TooFewTables, PageLeft}
use Rattle.refusal.specs.Number.{number_of}

-- the refusal of a number, the last one for each number that no other has
abbrev pub refusal_of : ℕ → Refusal
refusal_of n =
    cond (eqb n 1) Sizes (
    cond (eqb n 2) NotWellFormed (
    cond (eqb n 3) NoRoot (
    cond (eqb n 4) SameRoot (
    cond (eqb n 5) LongSource (
    cond (eqb n 6) TooHigh (
    cond (eqb n 7) NotAligned (
    cond (eqb n 8) Permissions (
    cond (eqb n 9) FrameTooHigh (
    cond (eqb n 10) HeldWindow (
    cond (eqb n 11) NotMapped (
    cond (eqb n 12) NotUser (
    cond (eqb n 13) OnlyValid (
    cond (eqb n 14) MappedAlready (
    cond (eqb n 15) NoPoolFrame (
    cond (eqb n 16) TooFewFrames (
    cond (eqb n 17) TooFewTables (
    PageLeft)))))))))))))))))

pub read_back : (r : Refusal) → refusal_of (number_of r) ≡ r
read_back Sizes = refl
read_back NotWellFormed = refl
read_back NoRoot = refl
read_back SameRoot = refl
read_back LongSource = refl
read_back TooHigh = refl
read_back NotAligned = refl
read_back Permissions = refl
read_back FrameTooHigh = refl
read_back HeldWindow = refl
read_back NotMapped = refl
read_back NotUser = refl
read_back OnlyValid = refl
read_back MappedAlready = refl
read_back NoPoolFrame = refl
read_back TooFewFrames = refl
read_back TooFewTables = refl
read_back PageLeft = refl

pub one_number : (a b : Refusal) → number_of a ≡ number_of b → a ≡ b
one_number a b e = sym (read_back a) ∙ ap refusal_of e ∙ read_back b

pub not_zero : (r : Refusal) → number_of r ≡ 0 → ⊥
not_zero Sizes e = omega (arith, e)
not_zero NotWellFormed e = omega (arith, e)
not_zero NoRoot e = omega (arith, e)
not_zero SameRoot e = omega (arith, e)
not_zero LongSource e = omega (arith, e)
not_zero TooHigh e = omega (arith, e)
not_zero NotAligned e = omega (arith, e)
not_zero Permissions e = omega (arith, e)
not_zero FrameTooHigh e = omega (arith, e)
not_zero HeldWindow e = omega (arith, e)
not_zero NotMapped e = omega (arith, e)
not_zero NotUser e = omega (arith, e)
not_zero OnlyValid e = omega (arith, e)
not_zero MappedAlready e = omega (arith, e)
not_zero NoPoolFrame e = omega (arith, e)
not_zero TooFewFrames e = omega (arith, e)
not_zero TooFewTables e = omega (arith, e)
not_zero PageLeft e = omega (arith, e)
