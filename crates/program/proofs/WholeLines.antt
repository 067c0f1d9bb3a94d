-- Every line of the input is answered as it stands, however long it is, though only 129 bytes of it are kept. Assumes nothing.
use mathlib.Core.Path.{◌≡◌, refl, sym, ◌∙◌, ap}
use mathlib.Core.List.{List, [], ◌∷◌, ◌++◌, append_assoc, append-nil}
use Prim.Native.Nat.{ℕ, ◌≤◌}
use native.Mathlib.Omega.{arith}
use lib.ListN.{length, take, length-take}
use lib.Seq.{take_all}
use Rattle.store.specs.Store.{Store}
use Rattle.program.specs.Lines.{Told, ended, grown, Fed}
use Rattle.text.proofs.Writing.{clip}
use Rattle.program.proofs.Answering.{kept_enough}

-- no byte is a line end
abbrev pub OneLine : List ℕ → Type 0
OneLine [] = Unit {0}
OneLine (b ∷ bs) = (b ≡ 10 → ⊥) × OneLine bs

-- bytes without a line end change nothing but the line
kept : (s : Store) (l bs : List ℕ) (s' : Store) (l' : List ℕ) → length l ≤ 129 → OneLine bs → Fed 129 s l bs s' l' → (s' ≡ s) × (l' ≡ take 129 (l ++ bs))
kept s l [] s' l' h o (e, f) = (e, f ∙ sym (rw (append-nil l) (take_all 129 l h)))
kept s l (b ∷ bs) s' l' h (n, o) (t, m, ended e x y, k) = absurd (n e)
kept s l (b ∷ bs) s' l' h (n, o) (t, m, grown x e f, k) =
    let g : length m ≤ 129 = rw (f, length-take) (omega arith) in
    let q = kept t m bs s' l' g o k in
    (q.0 ∙ e, q.1 ∙ rw f (clip 129 (l ++ (b ∷ [])) bs ∙ ap (take 129) (append_assoc l (b ∷ []) bs)))

-- bytes and then more bytes
parted : (room : ℕ) (s : Store) (l bs cs : List ℕ) (s' : Store) (l' : List ℕ) → Fed room s l (bs ++ cs) s' l' → (t : Store) × (m : List ℕ) × Fed room s l bs t m × Fed room t m cs s' l'
parted room s l [] cs s' l' f = (s, l, (refl, refl), f)
parted room s l (b ∷ bs) cs s' l' (t₁, l₁, x, f) = let q = parted room t₁ l₁ bs cs s' l' f in (q.0, q.1, (t₁, l₁, x, q.2), q.3)

-- a line that has just begun, up to its end: it is answered, and the next one begins
pub whole_line : (s : Store) (line : List ℕ) (s' : Store) (l' : List ℕ) → OneLine line → Fed 129 s [] (line ++ (10 ∷ [])) s' l' → Told s line s' × (l' ≡ [])
whole_line s line s' l' o f = let q = parted 129 s [] line (10 ∷ []) s' l' f in close q.0 q.1 (kept s [] line q.0 q.1 (omega arith) o q.2) q.3
  where
    told : (line : List ℕ) → Told s (take 129 line) s' → Told s line s'
    told line t = record { text = t.text; printed = rw (← kept_enough line) t.printed }

    close : (t : Store) (m : List ℕ) → (t ≡ s) × (m ≡ take 129 line) → Fed 129 t m (10 ∷ []) s' l' → Told s line s' × (l' ≡ [])
    close t m (e, h) (u, n, ended x y z, (p, r)) = (told line (rw (← e, ← h, p) y), r ∙ z)
    close t m (e, h) (u, n, grown x y z, (p, r)) = absurd (x refl)
