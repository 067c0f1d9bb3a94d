-- Rows, one after the other, and how they go into a lent slice. Assumes nothing.
use mathlib.Core.Path.{◌≡◌, refl, sym, ◌∙◌, ap}
use mathlib.Core.List.{List, [], ◌∷◌, ◌++◌, append_assoc, append-nil}
use Prim.Native.Nat.{ℕ, zero, suc, ◌+◌, ◌-◌, ◌*◌, ◌^◌, ◌≤◌, ◌<◌}
use native.Mathlib.Numerals.{add-one, unary_clauses}
use native.Mathlib.Nat.{le_refl}
use native.Mathlib.Omega.{arith}
use lib.ListN.{length, length-append}
use Rattle.store.specs.Store.{word}
use Rattle.store.specs.Walk.{table_of}
use Rattle.text.specs.Text.{RowWrote, row_text}
use Rattle.dump.specs.Dump.{Row, upward, entry, table, below, entry_rows, rows_text, Listed}
use Rattle.text.specs.declared.text.Text.{Text}
use Rattle.text.proofs.Writing.{wrote_none, wrote_then}

-- ---- the rows of a table and of an entry

pub upward_none : (f : ℕ → List Row) → upward f 0 ≡ []
unfolding upward
upward_none f = refl

pub upward_more : (f : ℕ → List Row) (n : ℕ) → upward f (n + 1) ≡ upward f n ++ f n
unfolding upward
upward_more f n = rw add-one refl

upward_grows : (f : ℕ → List Row) (i n : ℕ) → length (upward f i) ≤ length (upward f (i + n))
unfolding upward
upward_grows f i zero = simp unary_clauses (le_refl _)
upward_grows f i (suc n) = simp (unary_clauses, length-append) (omega (arith, upward_grows f i n))

-- row i of n is counted among them all
pub upward_part : (f : ℕ → List Row) (i n : ℕ) → i < n → length (upward f i) + length (f i) ≤ length (upward f n)
upward_part f i n l =
    let e : i + 1 + (n - (i + 1)) ≡ n = omega arith in
    let g : length (upward f (i + 1)) ≡ length (upward f i) + length (f i) = ap length (upward_more f i) ∙ length-append (upward f i) (f i) in
    omega (arith, rw e at (upward_grows f (i + 1) (n - (i + 1))))

pub table_is : (ws : List ℕ) (l t : ℕ) → table ws l t ≡ upward (λ (i : ℕ). entry_rows ws l t i) 512
unfolding table below
table_is ws zero t = refl
table_is ws (suc l) t = refl

-- which are all where i has come to 512
pub table_upto : (ws : List ℕ) (l t i : ℕ) → i ≡ 512 → table ws l t ≡ upward (λ (k : ℕ). entry_rows ws l t k) i
table_upto ws l t i e = table_is ws l t ∙ ap (λ (n : ℕ). upward (λ (k : ℕ). entry_rows ws l t k) n) (sym e)

pub entry_full : (l i e : ℕ) (rows : List Row) → (e ≡ 0 → ⊥) → entry l i e rows ≡ record { level = l; index = i; word = e } ∷ rows
unfolding entry
entry_full l i zero rows n = absurd (n refl)
entry_full l i (suc e) rows n = refl

module _ (ws : List ℕ) (l t i e : ℕ) (h : e ≡ word ws (512 * t + i)) where
  pub entry_none : e ≡ 0 → entry_rows ws l t i ≡ []
  unfolding entry
  entry_none z = rw (sym h ∙ z)

  pub entry_some : (e ≡ 0 → ⊥) → entry_rows ws l t i ≡ record { level = l; index = i; word = e } ∷ below ws l e
  entry_some n = rw (← h) (entry_full l i e (below ws l e) n)

  pub entry_room : (n : ℕ) → (e ≡ 0 → ⊥) → n + length (entry_rows ws l t i) < 2 ^ 64 → n + 1 + length (below ws l e) < 2 ^ 64
  entry_room n k r = let q : n + suc (length (below ws l e)) < 2 ^ 64 = rw (entry_some k) at r in omega arith

pub below_none : (ws : List ℕ) (l e : ℕ) → l ≡ 0 → below ws l e ≡ []
unfolding below
below_none ws l e z = rw z

pub below_more : (ws : List ℕ) (l e : ℕ) → (l ≡ 0 → ⊥) → below ws l e ≡ table ws (l - 1) (table_of e)
unfolding below
below_more ws zero e n = absurd (n refl)
below_more ws (suc l) e n = simp unary_clauses

-- ---- rows as text

text_append : (a b : List Row) → rows_text (a ++ b) ≡ rows_text a ++ rows_text b
unfolding rows_text
text_append [] b = refl
text_append (r ∷ a) b = rw (text_append a b) (sym (append_assoc (row_text r.level r.index r.word) (rows_text a) (rows_text b)))

pub listed_none : {t : Text} {n : ℕ} → Listed t n [] t n
unfolding rows_text
listed_none {t} = record { wrote = wrote_none t; count = omega arith; short = omega arith }

pub listed_row : {t t' : Text} {n level index w : ℕ} → RowWrote t level index w t' → Listed t n (record { level = level; index = index; word = w } ∷ []) t' (n + 1)
unfolding rows_text
listed_row {level = level} {index} {w} r = record {
  wrote = rw (append-nil (row_text level index w)) r.wrote;
  count = refl;
  short = rw (append-nil (row_text level index w)) r.short;
}

pub listed_then : {t₀ t₁ t₂ : Text} {a b : List Row} {l m r : ℕ} → Listed t₀ l a t₁ m → Listed t₁ m b t₂ r → Listed t₀ l (a ++ b) t₂ r
listed_then {a = a} {b} x y = record {
  wrote = rw (text_append a b) (wrote_then x.wrote y.wrote);
  count = rw (length-append a b) (omega (arith, x.count, y.count));
  short = simp (text_append a b, length-append) (omega (arith, x.short, y.short));
}
