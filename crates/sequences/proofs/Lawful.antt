-- What holds of a call by itself, whatever is lent to it, by the way in which it is lent: for writing, for reading, or with a buffer to fill. Assumes nothing.
use mathlib.Core.Path.{◌≡◌, refl, sym, ap, ◌∙◌, subst}
use mathlib.Core.Logic.{◌⊎◌, inl, inr, ⊎_elim}
use mathlib.Core.List.{List}
use Prim.Native.Nat.{ℕ}
use lib.ListN.{length}
use Rattle.std.specs.Prelude.{Result, Ok, Err}
use Rattle.refusal.specs.declared.Refusal.{Refusal as Reason}
use Rattle.refusal.specs.Number.{number_of}
use Rattle.address.specs.Answer.{Said, refused, number_said, said as spoken}
use Rattle.store.specs.Store.{Store}
use Rattle.process.proofs.PartLaws.{One}
use Rattle.sequences.specs.Call.{Call, Lent, lent}
use Rattle.sequences.specs.Answers.{Writes, Reads, Fills}
use Rattle.sequences.specs.Numbers.{numbers, Listed}
use Rattle.sequences.specs.Laws.{Refusal, AnsweredOrRefused, Sound, AsLong, KeepsLengths}
use Rattle.sequences.proofs.Left.{Left}

-- A says what c may say and leave
pub record Lawful (c : Call) (A : Lent → Said → Lent → Type 0) : Type 0 where
  pub ends : (l : Lent) (a : Said) (l' : Lent) → A l a l' → AnsweredOrRefused c l a l'
  pub lengths : (l : Lent) (a : Said) (l' : Lent) → A l a l' → KeepsLengths c l a l'
  pub sound : (l : Lent) (a : Said) (l' : Lent) → A l a l' → Sound l.store → Sound l'.store
  pub one : (l : Lent) (a a' : Said) (l₁ l₂ : Lent) → A l a l₁ → A l a' l₂ → (a ≡ a') × (l₁ ≡ l₂)

as_it_is : (s : Store) → AsLong s s
as_it_is s = record { words = refl; tmarks = refl; bytes = refl; fmarks = refl }

-- a is refused with n
refusal : (c : Call) (l : Lent) (a : Said) (l' : Lent) (n : ℕ) → Listed n (numbers c) → a ≡ refused n → l' ≡ l → Refusal c l a l'
refusal c l a l' n h e same =
    let number : n ≡ a.number = ap (λ (x : Said). x.number) (sym e) in
    record { listed = subst (λ (k : ℕ). Listed k (numbers c)) number h; alone = e ∙ ap refused number; same = same }

-- ---- the store is lent for writing

module _ (c : Call) (P : Store → Result ℕ Reason → Store → Type 0) (no : (s : Store) (n : Reason) (s' : Store) → P s (Err n) s' → Listed (number_of n) (numbers c) × (s' ≡ s))
    (done : (s : Store) (v : ℕ) (s' : Store) → P s (Ok v) s' → Left s s') (one : One P) where
  left : (s : Store) (r : Result ℕ Reason) (s' : Store) → P s r s' → Left s s'
  left s (Err n) s' p = subst (Left s) (sym (no s n s' p).1) (record { lengths = as_it_is s; sound = λ o. o })
  left s (Ok v) s' p = done s v s' p

  ends : (l : Lent) (a : Said) (l' : Lent) (r : Result ℕ Reason) → P l.store r l'.store → a ≡ number_said r → l'.buffer ≡ l.buffer → AnsweredOrRefused c l a l'
  unfolding spoken
  ends l a l' (Err n) p e b = let q = no l.store n l'.store p in inr (refusal c l a l' (number_of n) q.0 e (λ i. lent (q.1 i) (b i)))
  ends l a l' (Ok v) p e b = inl (ap (λ (x : Said). x.number) e)

  pub writing : Lawful c (λ l. Writes (P l.store) l)
  writing = record {
    ends = λ l a l' x. ends l a l' x.spoken.answer x.spoken.holds x.spoken.says x.buffer;
    lengths = λ l a l' x. record { store = (left l.store x.spoken.answer l'.store x.spoken.holds).lengths; buffer = ap length x.buffer };
    sound = λ l a l' x. (left l.store x.spoken.answer l'.store x.spoken.holds).sound;
    one = λ l a a' l₁ l₂ x y.
        let e = one l.store x.spoken.answer y.spoken.answer l₁.store l₂.store x.spoken.holds y.spoken.holds in
        (x.spoken.says ∙ ap number_said e.0 ∙ sym y.spoken.says, λ i. lent (e.1 i) ((x.buffer ∙ sym y.buffer) i));
  }

-- ---- the store is lent for reading

module _ (c : Call) (P : Store → Result ℕ Reason → Type 0) (no : (s : Store) (n : Reason) → P s (Err n) → Listed (number_of n) (numbers c))
    (one : (s : Store) (a a' : Result ℕ Reason) → P s a → P s a' → a ≡ a') where
  said : (l : Lent) (a : Said) (l' : Lent) (r : Result ℕ Reason) → P l.store r → a ≡ number_said r → l' ≡ l → AnsweredOrRefused c l a l'
  unfolding spoken
  said l a l' (Err n) p e same = inr (refusal c l a l' (number_of n) (no l.store n p) e same)
  said l a l' (Ok v) p e same = inl (ap (λ (x : Said). x.number) e)

  pub reading : Lawful c (λ l. Reads (P l.store) l)
  reading = record {
    ends = λ l a l' x. said l a l' x.spoken.answer x.spoken.holds x.spoken.says x.same;
    lengths = λ l a l' x. subst (KeepsLengths c l a) (sym x.same) (record { store = as_it_is l.store; buffer = refl });
    sound = λ l a l' x. subst (λ (t : Lent). Sound l.store → Sound t.store) (sym x.same) (λ o. o);
    one = λ l a a' l₁ l₂ x y.
        let e = one l.store x.spoken.answer y.spoken.answer x.spoken.holds y.spoken.holds in
        (x.spoken.says ∙ ap number_said e ∙ sym y.spoken.says, x.same ∙ sym y.same);
  }

-- ---- the buffer is filled; what paper says of an answer is a refusal n of the call that leaves the buffer, or has number 0

module _ (c : Call) {A : Type 0} (paper : A → Said) (P : Store → List ℕ → A → List ℕ → Type 0)
    (ends : (s : Store) (b : List ℕ) (r : A) (b' : List ℕ) → P s b r b' → ((paper r).number ≡ 0) ⊎ ((n : ℕ) × Listed n (numbers c) × (paper r ≡ refused n) × (b' ≡ b)))
    (size : (s : Store) (b : List ℕ) (r : A) (b' : List ℕ) → P s b r b' → length b' ≡ length b)
    (one : (s : Store) (b : List ℕ) (r r' : A) (t t' : List ℕ) → P s b r t → P s b r' t' → (r ≡ r') × (t ≡ t')) where
  pub filling : Lawful c (λ l. Fills paper (P l.store l.buffer) l)
  filling = record {
    ends = λ l a l' x.
        ⊎_elim (λ z. inl (ap (λ (y : Said). y.number) x.spoken.says ∙ z))
        (λ q. inr (refusal c l a l' q.0 q.1 (x.spoken.says ∙ q.2) (λ i. lent (x.store i) (q.3 i))))
        (ends l.store l.buffer x.spoken.answer l'.buffer x.spoken.holds);
    lengths = λ l a l' x. record {
      store = subst (AsLong l.store) (sym x.store) (as_it_is l.store);
      buffer = size l.store l.buffer x.spoken.answer l'.buffer x.spoken.holds;
    };
    sound = λ l a l' x. subst Sound (sym x.store);
    one = λ l a a' l₁ l₂ x y.
        let e = one l.store l.buffer x.spoken.answer y.spoken.answer l₁.buffer l₂.buffer x.spoken.holds y.spoken.holds in
        (x.spoken.says ∙ ap paper e.0 ∙ sym y.spoken.says, λ i. lent ((x.store ∙ sym y.store) i) (e.1 i));
  }
