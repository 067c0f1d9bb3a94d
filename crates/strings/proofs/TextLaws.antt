-- What each way out of `copy_in_str` says, that two answers to one call are the same, and what a success means. Assumes nothing.
use mathlib.Core.Path.{◌≡◌, sym, ap, subst, ◌∙◌}
use mathlib.Core.Bool.{Bool}
use mathlib.Core.List.{List, ◌++◌}
use mathlib.Core.Logic.{inl, inr, ⊎_elim}
use Prim.Native.Nat.{ℕ, ◌+◌, ◌-◌, ◌≤◌, ◌<◌}
use native.Mathlib.Omega.{arith}
use lib.Dec.{ltb}
use borrow.Author.Tests.{ltb-true, ltb-false}
use lib.ListN.{length, get_or, take, drop, length-append, length-drop, get_or-append}
use lib.Seq.{length-take-le, get_or-append-add, get_or-drop}
use Rattle.std.specs.Prelude.{Result, Ok, Err}
use Rattle.refusal.specs.declared.Refusal.{Refusal}
use Rattle.refusal.specs.Number.{number_of}
use Rattle.refusal.proofs.Numbers.{one_number}
use Rattle.store.specs.Store.{Store}
use Rattle.store.proofs.Outcomes.{one_smallest}
use Rattle.well_formed.specs.Root.{RootReady}
use Rattle.copies.specs.Bytes.{byte_at, bytes_at}
use Rattle.copies.specs.Needed.{CopyReady}
use Rattle.strings.specs.Str.{StrReason, StrDone, Measured, Str}
use Rattle.strings.specs.TextRead.{TextRead}
use Rattle.strings.specs.declared.StrRead.{StrRead}
use Rattle.copies.proofs.BytesLaws.{bytes_length, bytes_get}
use Rattle.strings.proofs.StrLaws.{zero_met_lem, str_le, str_before, str_zero}
use Rattle.strings.proofs.TextReasons.{str_pages}

module _ (s : Store) (root va : ℕ) (dst : List ℕ) where
  module _ (n : ℕ) (met : Bool) (m : Measured s root va (length dst) n met) where
    pub within : n ≤ length dst
    within = omega (arith, m.count, str_le s root va (length dst))

    part : length (take n dst) ≡ n
    part = length-take-le n dst within

    pub may_read : RootReady s root → CopyReady s root va (length (take n dst))
    may_read f = record {
      at_root = f;
      pages = λ i d.
          str_pages s root va (length dst) (m.clear) i (⊎_elim (λ l. omega (arith, part, m.count)) (λ q. omega arith) d)
          (⊎_elim (λ l. inl (omega (arith, part, within))) inr d);
    }

    pub done : (x : List ℕ) → x ≡ bytes_at s root va (length (take n dst)) → Str s root va dst (Ok (record { bytes = n; met = met })) (x ++ drop n dst)
    done x q = (m.clear, record { count = m.count; zero = m.zero; buffer = ap (λ (y : List ℕ). y ++ drop n dst) (q ∙ ap (bytes_at s root va) part) })

  -- two answers to one call are the same, and so are the buffers
  pub one_str : (a a' : Result StrRead Refusal) (t t' : List ℕ) → Str s root va dst a t → Str s root va dst a' t' → (a ≡ a') × (t ≡ t')
  one_str (Err m) (Err n) t t' p q = (ap Err (one_number m n (one_smallest (StrReason s root va (length dst)) (number_of m) (number_of n) p.0 q.0)), p.1 ∙ sym q.1)
  one_str (Err m) (Ok x) t t' p q = absurd (q.0 (number_of m) p.0.applies)
  one_str (Ok x) (Err m) t t' p q = absurd (p.0 (number_of m) q.0.applies)
  one_str (Ok x) (Ok y) t t' p q =
      let e : x.bytes ≡ y.bytes = p.1.count ∙ sym q.1.count in
      let z : x.met ≡ y.met = p.1.zero ∙ sym q.1.zero in
      (λ i. Ok (record { bytes = e i; met = z i }), p.1.buffer ∙ ap (λ (k : ℕ). bytes_at s root va k ++ drop k dst) e ∙ sym q.1.buffer)

  -- what a success means
  module _ (n : ℕ) (met : Bool) (dst' : List ℕ) (u : Str s root va dst (Ok (record { bytes = n; met = met })) dst') where
    d : StrDone s root va dst n met dst'
    d = u.1

    less : met ≡ ltb n (length dst)
    less = d.zero ∙ zero_met_lem s root va (length dst) ∙ ap (λ (x : ℕ). ltb x (length dst)) (sym d.count)

    upto : n ≤ length dst
    upto = omega (arith, d.count, str_le s root va (length dst))

    get : (i : ℕ) → get_or dst' i 0 ≡ get_or (bytes_at s root va n ++ drop n dst) i 0
    get i = ap (λ (l : List ℕ). get_or l i 0) d.buffer

    front : length (bytes_at s root va n) ≡ n
    front = bytes_length s root va n

    stays : (i : ℕ) → n ≤ i → get_or dst' i 0 ≡ get_or dst i 0
    stays i h =
        let j : i ≡ length (bytes_at s root va n) + (i - n) = omega (arith, front) in
        let k : n + (i - n) ≡ i = omega arith in
        get i ∙ ap (λ (x : ℕ). get_or (bytes_at s root va n ++ drop n dst) x 0) j ∙ get_or-append-add (bytes_at s root va n) (drop n dst) (i - n) 0
        ∙ get_or-drop n dst (i - n) 0
        ∙ ap (λ (x : ℕ). get_or dst x 0) k

    pub text_read : TextRead s root va dst n met dst'
    text_read = record {
      pages = λ i l. str_pages s root va (length dst) u.0 i (omega (arith, d.count));
      bytes = λ i l. get i ∙ get_or-append (bytes_at s root va n) (drop n dst) 0 i (omega (arith, front)) ∙ bytes_get s root va n i l;
      before = λ i l. str_before s root va (length dst) i (omega (arith, d.count));
      zero = λ e.
          let l : n < length dst = ltb-true n (length dst) (sym less ∙ e) in
          (l, subst (λ (x : ℕ). byte_at s root (va + x) ≡ 0) (sym d.count) (str_zero s root va (length dst) (omega (arith, d.count))));
      whole = λ e. omega (arith, upto, ltb-false n (length dst) (sym less ∙ e));
      size = omega (arith, ap length d.buffer, length-append (bytes_at s root va n) (drop n dst), front, length-drop n dst, upto);
      rest = stays;
    }
