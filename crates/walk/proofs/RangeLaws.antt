-- Counting the pages of a range by bits of their words, part by part. Assumes nothing.
use mathlib.Core.Path.{◌≡◌, sym, ap, subst, ◌∙◌}
use mathlib.Core.Logic.{by_cases}
use mathlib.Core.List.{List}
use Prim.Native.Nat.{ℕ, zero, suc, ◌+◌, ◌-◌, ◌*◌, ◌/◌, ◌%◌, ◌^◌, ◌≤◌, ◌<◌, min}
use native.Mathlib.Decide.{dec_le}
use native.Mathlib.Omega.{arith}
use lib.Bits.{bit_and}
use lib.ListN.{length, take, drop, get_or-eq_default}
use Rattle.std.specs.Prelude.{◌==◌}
use Rattle.std.specs.List.{slice_range, count_by}
use Rattle.std.proofs.lemmas.List.{get_or-drop}
use Rattle.std.proofs.lemmas.List.Sums.{sum_by_more, count_by-le-length}
use Rattle.std.proofs.Common.{add-suc, add-zero, add-one, length-drop}
use Rattle.std.proofs.lemmas.List.{length-take-le}
use Rattle.store.specs.Store.{word}
use Rattle.store.specs.Sum.{sum, same}
use Rattle.store.specs.Walk.{slot_word, slot_in, slot}
use Rattle.store.proofs.Sums.{same_no, sum_split, sum_cong}
use Rattle.store.proofs.Tree.{word_slot}
use Rattle.well_formed.specs.Scan.{Over, Zeros}
use Rattle.well_formed.proofs.Parts.{over_join, over_same, over_zero}
use Rattle.walk.specs.Missing.{entry_in, entry_under}
use Rattle.walk.specs.Runs.{Run}
use Rattle.walk.specs.Ranges.{alike, page_under}
use Rattle.walk.proofs.Groups.{slot_none, under_none}

-- ---- parts

-- a word that is 0 is not counted
pub none_alike : (mask v x : ℕ) → 0 < v → x ≡ 0 → same (bit_and x mask) v ≡ 0
none_alike mask v x h z = same_no (bit_and x mask) v (λ e. omega (arith, ap (λ (y : ℕ). bit_and y mask) z))

-- the first k words from number a on, as a list and as a sum
module _ (mask v : ℕ) (ws : List ℕ) (a : ℕ) where
  abbrev count : List ℕ → ℕ
  count l = count_by (λ x. bit_and x mask == v) l

  more : (k : ℕ) → a + k < length ws → count (take (suc k) (drop a ws)) ≡ count (take k (drop a ws)) + alike mask v (word ws) (a + k)
  unfolding same
  more k l = rw (add-one k, get_or-drop a ws k 0) at (sum_by_more {X = ℕ} (λ x. same (bit_and x mask) v) (drop a ws) k 0 (omega (arith, length-drop a ws)))

  listed : (k : ℕ) → a + k ≤ length ws → sum (alike mask v (word ws)) a + count (take k (drop a ws)) ≡ sum (alike mask v (word ws)) (a + k)
  unfolding sum
  listed zero l = rw (add-zero a) (omega arith)
  listed (suc k) l = rw add-suc (omega (arith, listed k (omega arith), more k (omega arith)))

  pub listed_part : (e : ℕ) → a ≤ e → e ≤ length ws → Over (alike mask v (word ws)) a e (count (slice_range ws a e))
  listed_part e l h = let z : a + (e - a) ≡ e = omega arith in record {
    adds = rw z at (listed (e - a) (omega arith));
    few = omega (arith, count_by-le-length (λ x. bit_and x mask == v) (slice_range ws a e), length-take-le (e - a) (drop a ws) (omega (arith, length-drop a ws)));
  }

-- functions that agree from a on and from b on
over_there : (g h : ℕ → ℕ) (a b m n : ℕ) → ((i : ℕ) → i < m → g (a + i) ≡ h (b + i)) → Over g a (a + m) n → Over h b (b + m) n
over_there g h a b m n agree x =
    let e = sum_cong (λ i. g (a + i)) (λ i. h (b + i)) m agree in
    record { adds = omega (arith, x.adds, e, sum_split g a m, sum_split h b m); few = omega (arith, x.few) }

-- a part cut off where all that follows is 0
over_cut : (g : ℕ → ℕ) (len f x a b n : ℕ) → ((k : ℕ) → len ≤ k → g k ≡ 0) → f ≤ x → a ≡ min f len → b ≡ min x len → Over g a b n → Over g f x n
over_cut g len f x a b n past l from upto c = by_cases (dec_le len f) outside inside
  where
    outside : len ≤ f → Over g f x n
    outside h = let z : n ≡ 0 = omega (arith, c.few) in rw z (over_zero g f x l (λ k p q. past k (omega arith)))

    inside : (len ≤ f → ⊥) → Over g f x n
    inside h =
        let e : a ≡ f = omega arith in
        let z : n ≡ n + 0 = omega arith in
        rw (sym e, z) (over_join g a b x n 0 (omega arith) (omega arith) c (over_zero g b x (omega arith) (λ k p q. past k (omega arith))))

-- ---- the pages of one block, where e is its entry

-- an entry below that of table 0 names no table
pub block_low : (ws : List ℕ) (e first end mask v : ℕ) → 0 < v → first ≤ end → e < 0x4000_0000 → Over (alike mask v (entry_under ws e)) first end 0
block_low ws e first end mask v h l low =
    over_zero (alike mask v (entry_under ws e)) first end l (λ k p q. none_alike mask v (entry_under ws e k) h (slot_none ws (slot_in e (k % 512)) (omega arith)))

-- in the same block as the page first, the i-th page after it has the i-th slot after its slot
page_slot : (e first i f : ℕ) → first % 512 + i < 512 → 0x4000_0000 ≤ e → f ≡ 512 * (e / 1024 - 0x10_0000) + first % 512
    → slot_in e ((first + i) % 512) ≡ f + i + 2
page_slot e first i f h big is =
    let x : (first + i) % 512 ≡ first % 512 + i = omega arith in
    let y : f + 512 * 0x10_0000 ≡ 512 * (e / 1024) + first % 512 = omega arith in
    ap (slot_in e) x ∙ plain (512 * (e / 1024)) (first % 512 + i) (f + i) (omega arith)
  where
    plain : (m j w : ℕ) → w + 512 * 0x10_0000 ≡ m + j → m + j + 2 - 512 * 0x10_0000 ≡ w + 2
    plain m j w u = omega arith

-- their words are those from number f on
pub block_words : (ws : List ℕ) (e first end f a b mask v n : ℕ) → 0 < v → first ≤ end → end ≤ 512 * (first / 512) + 512 → 0x4000_0000 ≤ e
    → f ≡ 512 * (e / 1024 - 0x10_0000) + first % 512 → a ≡ min f (length ws) → b ≡ min (f + (end - first)) (length ws)
    → Over (alike mask v (word ws)) a b n → Over (alike mask v (entry_under ws e)) first end n
block_words ws e first end f a b mask v n hv l h big is from upto c =
    let z : first + (end - first) ≡ end = omega arith in
    let past : (k : ℕ) → length ws ≤ k → alike mask v (word ws) k ≡ 0 = λ k q. none_alike mask v (word ws k) hv (get_or-eq_default ws 0 q) in
    let whole = over_cut (alike mask v (word ws)) (length ws) f (f + (end - first)) a b n past (omega arith) from upto c in
    rw z at (over_there (alike mask v (word ws)) (alike mask v (entry_under ws e)) f first (end - first) n (λ i q. ap (λ (x : ℕ). same (bit_and x mask) v) (sym (page_word i q))) whole)
  where
    here : (i : ℕ) → i < end - first → first % 512 + i < 512
    here i q = omega arith

    page_word : (i : ℕ) → i < end - first → entry_under ws e (first + i) ≡ word ws (f + i)
    page_word i q = ap (slot_word ws) (page_slot e first i f (here i q) big is) ∙ word_slot ws (f + i)

-- ---- the pages of one group, where top is the root's entry of it

pub group_low : (ws : List ℕ) (top first end mask v : ℕ) → 0 < v → first ≤ end → top ≡ 0 → Over (alike mask v (page_under ws top)) first end 0
group_low ws top first end mask v h l z =
    over_zero (alike mask v (page_under ws top)) first end l
    (λ k p q. none_alike mask v (page_under ws top k) h (under_none ws (entry_under ws top (k / 512)) k (under_none ws top (k / 512) z)))

-- a count of h from a up to p, gone on with to n by a function that agrees there
pub over_next : (g h : ℕ → ℕ) (mask v a p n c d : ℕ) → a ≤ p → p ≤ n → ((k : ℕ) → p ≤ k → k < n → g k ≡ h k)
    → Over (alike mask v h) a p c → Over (alike mask v g) p n d → Over (alike mask v h) a n (c + d)
over_next g h mask v a p n c d l m agree x y =
    over_join (alike mask v h) a p n c d l m x (over_same (alike mask v g) (alike mask v h) p n d m (λ k q r. ap (λ (z : ℕ). same (bit_and z mask) v) (agree k q r)) y)

-- ---- slots that a scan takes as one hold the same word

-- 64 words that are 0
pub empty_run : (ws : List ℕ) (m : ℕ) → 2 ≤ m → (m - 2) % 64 ≡ 0 → Zeros ws (m - 2) (m - 2 + 64) → Run ws m 64
empty_run ws m h e z = record {
  some = omega arith;
  within = omega arith;
  there = λ _. h;
  empty = λ _ j l q. let x : j ≡ j - 2 + 2 = omega arith in ap (slot_word ws) x ∙ word_slot ws (j - 2) ∙ z (j - 2) (omega arith) (omega arith);
}

pub run_same : (ws : List ℕ) (m r j : ℕ) → Run ws m r → m ≤ j → j < m + r → slot_word ws m ≡ slot_word ws j
run_same ws m r j c l h =
    by_cases (dec_le r 1) (λ q. ap (slot_word ws) (omega arith))
    (λ q. let n : 1 < r = omega arith in c.empty n m (omega arith) (omega arith) ∙ sym (c.empty n j l h))

pub run_one : (ws : List ℕ) (m r : ℕ) → Run ws m r → 0 < slot_word ws m → r ≡ 1
run_one ws m r c h = by_cases (dec_le r 1) (λ q. omega (arith, c.some)) (λ q. absurd (omega (arith, c.empty (omega arith) m (omega arith) (omega arith))))

-- where a scan goes on behind r blocks from page p on, or at the end
pub next_block : (p end r n : ℕ) → p < end → 1 ≤ r → n ≡ min (512 * (p / 512 + r)) end → (p ≤ n) × (n ≤ end) × (n ≤ 512 * (p / 512 + r))
next_block p end r n h l e = (omega arith, omega arith, omega arith)

-- what is counted up to there fits
pub few_pages : (first p n end c d : ℕ) → first ≤ p → p ≤ n → n ≤ end → end ≤ 2 ^ 26 → c ≤ p - first → d ≤ n - p → c + d < 2 ^ 64
few_pages first p n end c d a b e f g h = omega arith

-- the slots of a run of the table that e names are those of its entries
run_slot : (ws : List ℕ) (e i r d : ℕ) → i < 512 → Run ws (slot_in e i) r → d < r → slot_in e (i + d) ≡ slot_in e i + d
run_slot ws e i r d l c h = by_cases (dec_le r 1) (λ q. let z : d ≡ 0 = omega arith in rw z (omega arith)) (λ q. omega (arith, c.there (omega arith)))

run_entry : (ws : List ℕ) (e i r : ℕ) → i < 512 → Run ws (slot_in e i) r → i + r ≤ 512
run_entry ws e i r l c = by_cases (dec_le r 1) (λ q. omega arith) (λ q. omega (arith, c.within, c.there (omega arith)))

-- those of the blocks of page p that a scan takes as one
pub page_in_block : (ws : List ℕ) (top e p n m r : ℕ) → m ≡ slot_in top (p / 512 % 512) → Run ws m r → e ≡ slot_word ws m → n ≤ 512 * (p / 512 + r)
    → (k : ℕ) → p ≤ k → k < n → entry_under ws e k ≡ page_under ws top k
page_in_block ws top e p n m r em c read h k l q =
    let i : ℕ = p / 512 % 512 in
    let run : Run ws (slot_in top i) r = subst (λ (x : ℕ). Run ws x r) em c in
    let d : ℕ = k / 512 - p / 512 in
    let dr : d < r = omega arith in
    let b : i + r ≤ 512 = run_entry ws top i r (omega arith) run in
    let x : k / 512 % 512 ≡ i + d = omega arith in
    let s : slot_in top (k / 512 % 512) ≡ m + d = ap (slot_in top) x ∙ run_slot ws top i r d (omega arith) run dr ∙ ap (λ (y : ℕ). y + d) (sym em) in
    ap (λ (y : ℕ). entry_under ws y k) (read ∙ run_same ws m r (m + d) c (omega arith) (omega arith) ∙ ap (slot_word ws) (sym s))

-- those of the groups of page p that a scan takes as one
pub page_in_group : (ws : List ℕ) (g top p n r : ℕ) → Run ws (512 * g + p / 512 / 512 + 2) r → top ≡ slot_word ws (512 * g + p / 512 / 512 + 2) → n ≤ 262144 * (p / 512 / 512 + r)
    → (k : ℕ) → p ≤ k → k < n → page_under ws top k ≡ entry_in ws g 2 k
unfolding slot
page_in_group ws g top p n r c read h k l q =
    ap (λ (i : ℕ). page_under ws i k) (read ∙ run_same ws (512 * g + p / 512 / 512 + 2) r (512 * g + k / 512 / 512 + 2) c (omega arith) (omega arith))
