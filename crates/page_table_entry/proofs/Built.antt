-- The entries that are built, by their fields, and which answer their tests pick. Assumes nothing.
use mathlib.Core.Path.{◌≡◌, refl, sym, ◌∙◌, subst⁻¹}
use mathlib.Core.Bool.{Bool, true, false}
use Prim.Native.Nat.{ℕ, ◌*◌, ◌/◌, ◌%◌, ◌^◌, ◌≤◌, ◌<◌}
use native.Mathlib.Omega.{arith}
use mathlib.Core.Logic.{by_cases}
use native.Mathlib.Decide.{dec_lt}
use lib.Dec.{ltb, leb, lit<, lit≤}
use lib.Bits.{bit_or, or_shifted}
use lib.Pow.{shl_exact}
use borrow.Author.Tests.{lt-ltb, le-ltb, le-leb, lt-leb, ltb-false, leb-false}
use Rattle.address.specs.Answer.{Said, answered, refused, pick}
use Rattle.address.proofs.Answers.{value, clash}
use Rattle.std.proofs.lemmas.Nat.Bits.{bit_at_cat_low}
use Rattle.page_table_entry.specs.Layout.{bit_v}
use Rattle.page_table_entry.specs.Change.{with_bit, WithBit}
use Rattle.page_table_entry.specs.Built.{name_of, entry_of, named, written, IsName, IsEntry, Named, Written}
use Rattle.page_table_entry.proofs.Change.{with_bit_lem}
use Rattle.page_table_entry.proofs.Fields.{frame_above}

-- what is picked has a value only where the refusal's test fails
chosen : (t : Bool) (n : ℕ) (s : Said) (e : ℕ) → pick t (refused n) s ≡ answered e → (t ≡ false) × (s ≡ answered e)
chosen true n s e p = absurd (clash p)
chosen false n s e p = (refl, p)

module _ (pa : ℕ) where
  pub nine : 2 ^ 56 ≤ pa → refused 9 ≡ named pa
  unfolding named
  nine l = simp (le-leb (2 ^ 56) pa l)

  pub name : pa < 2 ^ 56 → answered (name_of pa) ≡ named pa
  unfolding named
  name l = simp (lt-leb (2 ^ 56) pa l)

  pub is_named : (s : Said) → s ≡ named pa → Named pa s
  unfolding named
  is_named s w = record { whole = w; fields = fields }
    where
      fields : (e : ℕ) → s ≡ answered e → IsName pa e
      fields e v =
          let o : (leb (2 ^ 56) pa ≡ false) × (answered (name_of pa) ≡ answered e) = chosen _ 9 _ e (sym w ∙ v) in
          let l : pa < 2 ^ 56 = leb-false (2 ^ 56) pa o.0 in
          subst⁻¹ (IsName pa) (sym (value o.1)) (record { flag = omega arith; frame = omega arith; above = omega arith })

  -- `(pa >> 12) << 10`
  pub shifted : pa < 2 ^ 56 → pa / 4096 * 1024 % 2 ^ 64 ≡ name_of pa
  shifted l = shl_exact {a = pa / 4096} 44 10 64 (omega arith) (lit≤ tt)

  -- an entry that `as_pte` answers is the name of a frame below 2 ^ 56
  pub name_answered : (e : ℕ) → answered e ≡ named pa → (e ≡ name_of pa) × (pa < 2 ^ 56)
  name_answered e p = by_cases (dec_lt pa (2 ^ 56)) (λ l. (value (p ∙ sym (name l)), l)) (λ h. absurd (clash (nine (omega arith) ∙ sym p)))

module _ (pa perm : ℕ) where
  -- the name, `| perm`, and V
  pub joined : perm ≤ 1023 → with_bit bit_v 1 (bit_or (name_of pa) perm) ≡ entry_of pa perm
  joined h = rw (or_shifted (pa / 4096) 10 perm (omega arith)) (omega arith)

  pub eight : 1023 < perm → refused 8 ≡ written pa perm
  unfolding written
  eight h = simp (lt-ltb 1023 perm h)

  pub then_nine : perm ≤ 1023 → 2 ^ 56 ≤ pa → refused 9 ≡ written pa perm
  unfolding written
  then_nine h l = simp (le-ltb 1023 perm h, le-leb (2 ^ 56) pa l)

  -- what `as_pte` refuses
  pub frame_refused : perm ≤ 1023 → (n : ℕ) → refused n ≡ named pa → refused n ≡ written pa perm
  frame_refused h n p = by_cases (dec_lt pa (2 ^ 56)) (λ l. absurd (clash (p ∙ sym (name pa l)))) (λ l. p ∙ sym (nine pa (omega arith)) ∙ then_nine h (omega arith))

  pub entry : perm ≤ 1023 → pa < 2 ^ 56 → answered (entry_of pa perm) ≡ written pa perm
  unfolding written
  entry h l = simp (le-ltb 1023 perm h, lt-leb (2 ^ 56) pa l)

  is_entry : perm ≤ 1023 → pa < 2 ^ 56 → IsEntry pa perm (entry_of pa perm)
  is_entry h l =
      record {
        valid = bit_at_cat_low (pa / 4096) 10 low 0 (lit< tt) ∙ set.here;
        flag = λ k lo hi. bit_at_cat_low (pa / 4096) 10 low k hi ∙ set.others k (λ q. omega arith);
        frame = (frame_above (pa / 4096) low (omega arith) (omega arith)).0;
        above = (frame_above (pa / 4096) low (omega arith) (omega arith)).1;
      }
    where
      low : ℕ
      low = with_bit bit_v 1 perm

      set : WithBit bit_v 1 perm low
      set = with_bit_lem bit_v 1 perm (lit< tt) low refl

  pub is_written : (s : Said) → s ≡ written pa perm → Written pa perm s
  unfolding written
  is_written s w = record { whole = w; fields = fields }
    where
      fields : (e : ℕ) → s ≡ answered e → IsEntry pa perm e
      fields e v =
          let o : (ltb 1023 perm ≡ false) × _ = chosen _ 8 _ e (sym w ∙ v) in
          let q : (leb (2 ^ 56) pa ≡ false) × _ = chosen _ 9 _ e o.1 in
          subst⁻¹ (IsEntry pa perm) (sym (value q.1)) (is_entry (ltb-false 1023 perm o.0) (leb-false (2 ^ 56) pa q.0))
