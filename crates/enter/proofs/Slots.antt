-- What the code of one page does to words and marks, as the definitions say it of a store. Assumes nothing.
use mathlib.Core.Path.{◌≡◌, refl, sym, ap, ◌∙◌}
use mathlib.Core.List.{List, []}
use Prim.Native.Nat.{ℕ, zero, suc, ◌+◌, ◌-◌, ◌*◌, ◌/◌, ◌%◌, ◌^◌, ◌≤◌, ◌<◌}
use native.Mathlib.Omega.{arith}
use lib.ListN.{length, set, length-set}
use lib.Seq.{set_out}
use Rattle.store.specs.Store.{Store, store_of, pointer_to}
use Rattle.store.specs.Count.{lowest}
use Rattle.store.specs.Walk.{slot_word, slot_in, slot}
use Rattle.enter.specs.Enter.{put_slot, put_run, linked, if_zero, hang, tabled, enter_run, Becomes, Hangable, RunFits}

-- a word put into a slot: below the first, among the words, past them
pub put_low : (ws : List ℕ) (m v : ℕ) → m < 2 → ws ≡ put_slot ws m v
put_low ws zero v h = refl
put_low ws (suc zero) v h = refl
put_low ws (suc (suc m)) v h = absurd (omega arith)

pub put_in : (ws : List ℕ) (m v : ℕ) → 2 ≤ m → set ws (m - 2) v ≡ put_slot ws m v
put_in ws m v h = let e : m ≡ suc (suc (m - 2)) = omega arith in sym (ap (λ (x : ℕ). put_slot ws x v) e)

pub put_past : (ws : List ℕ) (m v : ℕ) → 2 ≤ m → length ws ≤ m - 2 → ws ≡ put_slot ws m v
put_past ws m v h l = sym (set_out ws (m - 2) v l) ∙ put_in ws m v h

-- a slot that holds a word already, and one that gets the lowest free table
pub hung_kept : (ws ms : List ℕ) (m e : ℕ) → e ≡ slot_word ws m → (e ≡ 0 → ⊥) → Becomes ws ms (λ s. hang s m) ws ms
unfolding hang
hung_kept ws ms m e q n bs fs = go (slot_word ws m) (λ z. n (q ∙ z))
  where
    go : (x : ℕ) → (x ≡ 0 → ⊥) → store_of ws ms bs fs ≡ if_zero x (linked (store_of ws ms bs fs) m (lowest ms)) (store_of ws ms bs fs)
    go zero h = absurd (h refl)
    go (suc x) h = refl

pub hung_new : (ws ms : List ℕ) (m e t v : ℕ) (ws' ms' : List ℕ) → e ≡ slot_word ws m → e ≡ 0 → t ≡ lowest ms → v ≡ pointer_to t → ws' ≡ put_slot ws m v → ms' ≡ set ms t m
    → Becomes ws ms (λ s. hang s m) ws' ms'
unfolding hang
hung_new ws ms m e t v ws' ms' q z l p w k bs fs =
    (λ i. record { words = (w ∙ ap (put_slot ws m) (p ∙ ap pointer_to l)) i; tmarks = (k ∙ ap (λ (x : ℕ). set ms x m) l) i; bytes = bs; fmarks = fs })
    ∙ sym (ap (λ (x : ℕ). if_zero x (linked (store_of ws ms bs fs) m (lowest ms)) (store_of ws ms bs fs)) (sym q ∙ z))

-- as many marks as before
pub same_marks : (ws ms : List ℕ) (m : ℕ) (ws' ms' : List ℕ) → Becomes ws ms (λ s. hang s m) ws' ms' → length ms' ≡ length ms
unfolding hang
same_marks ws ms m ws' ms' h = ap (λ (s : Store). length s.tmarks) (h [] []) ∙ go (slot_word ws m)
  where
    go : (x : ℕ) → length (if_zero x (linked (store_of ws ms [] []) m (lowest ms)) (store_of ws ms [] [])).tmarks ≡ length ms
    go zero = length-set ms (lowest ms) m
    go (suc x) = refl

-- the two tables of a page, one after the other
module _ (ws ms : List ℕ) (r p : ℕ) (ws₁ ms₁ : List ℕ) (h₁ : Becomes ws ms (λ s. hang s (512 * r + p / 512 / 512 + 2)) ws₁ ms₁) where
  abbrev m₂ : ℕ
  m₂ = 512 * r + p / 512 / 512 + 2

  words₁ : (hang (store_of ws ms [] []) m₂).words ≡ ws₁
  words₁ = sym (ap (λ (s : Store). s.words) (h₁ [] []))

  module _ (e₂ m₁ : ℕ) (q₂ : e₂ ≡ slot_word ws₁ m₂) (q₁ : m₁ ≡ slot_in e₂ (p / 512 % 512)) where
    middle : m₁ ≡ slot_in (slot_word ws₁ m₂) (p / 512 % 512)
    middle = q₁ ∙ ap (λ (x : ℕ). slot_in x (p / 512 % 512)) q₂

    pub fits : Hangable ws ms r p → m₁ < 2 ^ 32
    unfolding slot
    fits c = rw (middle ∙ sym (ap (λ (l : List ℕ). slot_in (slot_word l m₂) (p / 512 % 512)) words₁)) c.fits

    pub both_hung : (ws₀ ms₀ : List ℕ) → Becomes ws₁ ms₁ (λ s. hang s m₁) ws₀ ms₀ → Becomes ws ms (λ s. tabled s r p) ws₀ ms₀
    unfolding tabled slot
    both_hung ws₀ ms₀ h₀ bs fs =
        h₀ bs fs ∙ ap (hang (store_of ws₁ ms₁ bs fs)) middle ∙ ap (λ (s : Store). hang s (slot_in (slot_word s.words m₂) (p / 512 % 512))) (h₁ bs fs)

-- the run of words after them: what it asks, and what it makes
module _ (ws ms : List ℕ) (r p n e : ℕ) (ws₀ ms₀ : List ℕ) (m : ℕ) (h : Becomes ws ms (λ s. tabled s r p) ws₀ ms₀) (q : m ≡ slot (slot_word ws₀) r 2 p) where
  place : m ≡ slot (slot_word (tabled (store_of ws ms [] []) r p).words) r 2 p
  place = q ∙ ap (λ (s : Store). slot (slot_word s.words) r 2 p) (h [] [])

  pub run_fits : RunFits ws ms r p n e → length ws₀ ≡ length ws → (2 ≤ m) × (m + n ≤ 2 + length ws₀) × (e + 1024 * n < 2 ^ 64)
  run_fits f l = (omega (arith, place, f.from), omega (arith, place, f.upto, l), f.small)

  pub run_entered : (ws' : List ℕ) → ws' ≡ put_run ws₀ m n e → Becomes ws ms (λ s. enter_run s r p n e) ws' ms₀
  unfolding enter_run
  run_entered ws' w bs fs =
      (λ i. store_of ((w ∙ ap (λ (x : ℕ). put_run ws₀ x n e) q) i) ms₀ bs fs)
      ∙ ap (λ (s : Store). store_of (put_run s.words (slot (slot_word s.words) r 2 p) n e) s.tmarks s.bytes s.fmarks) (h bs fs)
