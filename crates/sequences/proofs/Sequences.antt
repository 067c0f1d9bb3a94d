-- The laws of every sequence of calls, by induction over its steps. Assumes nothing.
use mathlib.Core.Path.{◌≡◌, refl, sym, ap, ◌∙◌, subst}
use mathlib.Core.Bool.{false≢true}
use mathlib.Core.List.{[], ◌∷◌, head-eq_of_cons-eq, tail-eq_of_cons-eq}
use Prim.Native.Nat.{ℕ}
use native.Mathlib.Omega.{arith}
use lib.ListN.{length}
use Rattle.std.specs.Prelude.{Result, Ok, Err}
use Rattle.refusal.specs.declared.Refusal.{Refusal}
use Rattle.refusal.proofs.Numbers.{not_zero}
use Rattle.address.specs.Answer.{Said, number_said, said}
use Rattle.store.specs.Store.{Store}
use Rattle.store.specs.SetUp.{SetUp}
use Rattle.sequences.specs.Call.{Call, Lent, lent}
use Rattle.sequences.specs.Answers.{Answers, Writes}
use Rattle.sequences.specs.Numbers.{among, Listed}
use Rattle.sequences.specs.Sequence.{Ask, Sequence, asks}
use Rattle.sequences.specs.Laws.{RefusedOrAnswered, Sound, Kept, KeptFromSetUp, Cut, OneSequence, Lengths}
use Rattle.sequences.proofs.Reasons.{set_up_listed}
use Rattle.sequences.proofs.Left.{set_up_sound}
use Rattle.sequences.proofs.Calls.{lawful}

-- ---- answered or refused

pub refused_or_answered : RefusedOrAnswered
refused_or_answered s [] q = tt
refused_or_answered s (x ∷ xs) q = (
  (lawful x.ask.call).ends (lent s x.ask.buffer) x.said x.left q.0,
  refused_or_answered x.left.store xs q.1,
)

-- ---- sound stores

pub kept : Kept
kept s [] o q = (tt, o)
kept s (x ∷ xs) o q =
    let o' = (lawful x.ask.call).sound (lent s x.ask.buffer) x.said x.left q.0 o in
    let r = kept x.left.store xs o' q.1 in
    ((o', r.0), r.1)

-- a set-up that says 0 has been answered
begun : (s : Store) (a : Said) (s' : Store) (r : Result ℕ Refusal) → SetUp s r s' → a ≡ number_said r → a.number ≡ 0 → Sound s'
unfolding said
begun s a s' (Err n) u e z = absurd (not_zero n (ap (λ (x : Said). x.number) (sym e) ∙ z))
begun s a s' (Ok v) u e z = set_up_sound s v s' u

pub kept_from_set_up : KeptFromSetUp
kept_from_set_up s x xs e z q =
    let w : Writes (SetUp s) (lent s x.ask.buffer) x.said x.left = subst (λ (c : Call). Answers c (lent s x.ask.buffer) x.said x.left) e q.0 in
    let o = begun s x.said x.left.store w.spoken.answer w.spoken.holds w.spoken.says z in
    let r = kept x.left.store xs o q.1 in
    ((o, r.0), r.1)

-- ---- one sequence, cut and repeated

pub cut : Cut
cut s [] ys = (λ q. (tt, q), λ q. q.1)
cut s (x ∷ xs) ys =
    let r = cut x.left.store xs ys in
    (λ q. let p = r.0 q.1 in ((q.0, p.0), p.1), λ q. (q.0.0, r.1 (q.0.1, q.1)))

pub one_sequence : OneSequence
unfolding asks
one_sequence s [] [] e p q = refl
one_sequence s [] (y ∷ ys) e p q = let n : ◌≡◌ {A = ℕ} 0 (length (y.ask ∷ asks ys)) = ap length e in absurd (omega arith)
one_sequence s (x ∷ xs) [] e p q = let n : ◌≡◌ {A = ℕ} (length (x.ask ∷ asks xs)) 0 = ap length e in absurd (omega arith)
one_sequence s (x ∷ xs) (y ∷ ys) e p q =
    let h : x.ask ≡ y.ask = head-eq_of_cons-eq e in
    let o = (lawful x.ask.call).one (lent s x.ask.buffer) x.said y.said x.left y.left p.0
    (subst (λ (k : Ask). Answers k.call (lent s k.buffer) y.said y.left) (sym h) q.0) in
    let r = one_sequence x.left.store xs ys (tail-eq_of_cons-eq e) p.1 (subst (λ (l : Lent). Sequence l.store ys) (sym o.1) q.1) in
    λ i. record { ask = h i; said = o.0 i; left = o.1 i } ∷ r i

-- ---- lengths

pub lengths : Lengths
lengths s [] q = (tt, record { words = refl; tmarks = refl; bytes = refl; fmarks = refl })
lengths s (x ∷ xs) q =
    let k = (lawful x.ask.call).lengths (lent s x.ask.buffer) x.said x.left q.0 in
    let r = lengths x.left.store xs q.1 in
    let a = k.store in
    let b = r.1 in
    ((k, r.0), record { words = b.words ∙ a.words; tmarks = b.tmarks ∙ a.tmarks; bytes = b.bytes ∙ a.bytes; fmarks = b.fmarks ∙ a.fmarks })
