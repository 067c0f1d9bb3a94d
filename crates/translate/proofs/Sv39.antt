-- The manual's translation from a root of a well-formed store, and ours: they agree, save on two kinds of level-0 words.
-- Assumes nothing.
use mathlib.Core.Path.{◌≡◌, refl, sym, ap, ◌∙◌}
use mathlib.Core.Bool.{Bool, true, false, cond, ◌&&◌}
use mathlib.Core.Logic.{◌⊎◌, inl, inr, ⊎_elim, ◌↔◌, by_cases}
use Prim.Native.Nat.{ℕ, suc, ◌+◌, ◌-◌, ◌*◌, ◌/◌, ◌%◌, ◌^◌, ◌≤◌, ◌<◌}
use native.Mathlib.Nat.{mod-eq_of_lt}
use native.Mathlib.Decide.{dec_lt}
use native.Mathlib.Omega.{arith}
use lib.Dec.{eqb}
use borrow.Author.Tests.{eq-eqb, ne_eqb}
use Rattle.address.specs.Field.{field, bit}
use Rattle.page_table_entry.specs.Layout.{bit_u, frame_of}
use Rattle.store.specs.Store.{Store, Sized, mark}
use Rattle.store.specs.WellFormed.{WellFormed}
use Rattle.store.specs.Walk.{slot_word, table_of, slot, entry_at, resolve}
use Rattle.store.proofs.Tree.{TreeOf, tree_of, top, zero_or}
use Rattle.store.proofs.Walk.{low, page_of_lem}
use Rattle.walk.specs.Mapped.{Mapped}
use Rattle.translate.specs.Sv39.{Walked, none, leaf, fault, at, Kind, entry, below, judged, walk, canonical, mode, root, finish, translate, memory, satp_of, page_of, usable, ends, granted, Differs}
use Rattle.walk.proofs.Pages.{word_shape}
use Rattle.translate.proofs.Memory.{page_low, top_page, there, points, reads_top, reads_middle, reads_last}
use Rattle.translate.proofs.Judged.{judged_zero, judged_pointer, judged_last, finishes, parity, either, ends_none, ends_leaf, let_through, granted_parts, granted_of, differs_denied, some_kind}

-- one level of the walk, where the entry that it reads is known
walk_down : (mem : ℕ → ℕ) (va i a e : ℕ) → entry mem va (suc i) a ≡ e → walk mem va (suc i) a ≡ judged (suc i) e (walk mem va i (below e))
unfolding walk
walk_down mem va i a e h = rw h

walk_end : (mem : ℕ → ℕ) (va a e : ℕ) → entry mem va 0 a ≡ e → walk mem va 0 a ≡ judged 0 e none
unfolding walk
walk_end mem va a e h = rw h

-- the addresses from 2 ^ 38 up with bit 38 clear have a bit above it
not_canonical : (va : ℕ) → 2 ^ 38 ≤ va → va < 2 ^ 64 → bit 38 va ≡ 0 → field 39 25 va ≡ bit 38 va * (2 ^ 25 - 1) → ⊥
not_canonical va h l b e =
    let q : va / 2 ^ 39 % 2 ^ 25 ≡ 0 = omega arith in
    let k : va / 2 ^ 39 < 2 ^ 25 = omega arith in
    let n : va / 2 ^ 39 ≡ 0 = sym (mod-eq_of_lt k) ∙ q in
    let o : va / 2 ^ 38 ≡ 1 = omega arith in
    let u : va / 2 ^ 38 % 2 ≡ 1 = ap (λ (x : ℕ). x % 2) o in
    omega arith

at_fault : {pa : ℕ} → at pa ≡ fault → ⊥
at_fault h = let o : ◌≡◌ {A = ℕ} 0 1 = cc in omega arith

module _ (s : Store) (z : Sized s) (c : WellFormed s) (r : ℕ) (rr : mark s.tmarks r ≡ 1) (other : ℕ → ℕ) where
  tr : TreeOf s
  tr = tree_of s z c

  -- nothing is found below an entry that is 0
  missing : (d x : ℕ) → entry_at s r d (x / 512) ≡ 0 → entry_at s r (suc d) x ≡ 0
  unfolding entry_at slot
  missing d x h =
      let e : slot (slot_word s.words) r (suc d) x ≡ 0 = omega arith in
      ap (slot_word s.words) e ∙ omega (arith, tr.none)

  low_shape : (va : ℕ) → va < 2 ^ 38 → 0 < resolve s r (va / 4096) → (resolve s r (va / 4096) % 2 ≡ 1) × (resolve s r (va / 4096) < 2 ^ 54)
  unfolding top
  low_shape va h = word_shape s z c r rr (va / 4096) (omega arith)

  -- the walk, level by level
  from_last : (va : ℕ) → 0 < entry_at s r 1 (page_of va / 512) → walk (memory s other) va 0 (below (entry_at s r 1 (page_of va / 512))) ≡ ends (resolve s r (page_of va))
  from_last va h =
      walk_end (memory s other) va (below (entry_at s r 1 (page_of va / 512))) (resolve s r (page_of va)) (reads_last s z c r rr other va h)
      ∙ judged_last (resolve s r (page_of va)) (word_shape s z c r rr (page_of va) (top_page va))

  -- an entry e of level 2 or 1, and below it what the rest of the walk makes of it
  level_down : (i d x : ℕ) (n w : Walked) → d ≤ 1 → top d x < 512
      → (entry_at s r d x ≡ 0 → w ≡ none) → (0 < entry_at s r d x → n ≡ w) → judged i (entry_at s r d x) n ≡ w
  level_down i d x n w b h f g = go (zero_or (entry_at s r d x) (λ p. p))
    where
      go : (entry_at s r d x ≡ 0) ⊎ (0 < entry_at s r d x) → judged i (entry_at s r d x) n ≡ w
      go (inl e) = ap (λ (y : ℕ). judged i y n) e ∙ judged_zero i n ∙ sym (f e)
      go (inr p) =
          let q = points s z c r rr d x b h p in
          ap (λ (y : ℕ). judged i y n) q.1 ∙ judged_pointer i (table_of (entry_at s r d x)) n (omega (arith, q.0, z.tables_to)) ∙ g p

  from_middle : (va : ℕ) → 0 < entry_at s r 0 (page_of va / 512 / 512) → walk (memory s other) va 1 (below (entry_at s r 0 (page_of va / 512 / 512))) ≡ ends (resolve s r (page_of va))
  unfolding top
  from_middle va h =
      walk_down (memory s other) va 0 (below (entry_at s r 0 (page_of va / 512 / 512))) (entry_at s r 1 (page_of va / 512)) (reads_middle s z c r rr other va h)
      ∙ level_down 1 1 (page_of va / 512) (walk (memory s other) va 0 (below (entry_at s r 1 (page_of va / 512)))) (ends (resolve s r (page_of va))) (omega arith) (top_page va)
      (λ e. ap ends (missing 1 (page_of va) e)) (from_last va)

  -- the manual's walk from root r ends at the word that ours finds, if that is usable, and else with a fault; 0 is not usable
  pub walks : (va : ℕ) → walk (memory s other) va 2 (root (satp_of r)) ≡ ends (resolve s r (page_of va))
  unfolding top
  walks va =
      walk_down (memory s other) va 1 (root (satp_of r)) (entry_at s r 0 (page_of va / 512 / 512)) (reads_top s z c r rr other va)
      ∙ level_down 2 0 (page_of va / 512 / 512) (walk (memory s other) va 1 (below (entry_at s r 0 (page_of va / 512 / 512)))) (ends (resolve s r (page_of va))) (omega arith) (top_page va)
      (λ e. ap ends (missing 1 (page_of va) (missing 0 (page_of va / 512) e))) (from_middle va)

  pub walks_agree : (va : ℕ) → va < 2 ^ 38 → walk (memory s other) va 2 (root (satp_of r)) ≡ ends (resolve s r (va / 4096))
  walks_agree va h = walks va ∙ ap (λ (p : ℕ). ends (resolve s r p)) (page_low va h)

  -- so it faults on a mapped page exactly for the two differences, and finds a leaf for mapped pages only
  pub differences : (va : ℕ) → va < 2 ^ 38 → Mapped s r (va / 4096) → (walk (memory s other) va 2 (root (satp_of r)) ≡ none) ↔ Differs (resolve s r (va / 4096))
  differences va h m = rw (walks_agree va h) (ends_none (resolve s r (va / 4096)))

  pub no_others : (va i e : ℕ) → va < 2 ^ 38 → walk (memory s other) va 2 (root (satp_of r)) ≡ leaf i e → (i ≡ 0) × (e ≡ resolve s r (va / 4096)) × Mapped s r (va / 4096)
  no_others va i e h f =
      let q = ends_leaf (resolve s r (va / 4096)) i e (rw (walks_agree va h) at f) in
      (q.0, q.1, omega (arith, low_shape va h q.2))

  -- the satp of r is in mode 8
  sv39_mode : eqb (mode (satp_of r)) 8 ≡ true
  sv39_mode = eq-eqb (mode (satp_of r)) 8 (omega (arith, there s z c r rr, z.tables_to))

  pub translates : (va : ℕ) (kind : Kind) → va < 2 ^ 38
      → translate (memory s other) (satp_of r) va kind
      ≡ cond (granted kind (resolve s r (va / 4096))) (at (frame_of (resolve s r (va / 4096)) + va % 4096)) fault
  unfolding translate
  translates va kind h =
      rw (sv39_mode, eq-eqb (field 39 25 va) (bit 38 va * (2 ^ 25 - 1)) (omega arith), walks_agree va h) (finishes kind va (resolve s r (va / 4096)) (low_shape va h))

  -- no word is there for a page of the upper half
  upper_word : (va : ℕ) → bit 38 va ≡ 1 → resolve s r (page_of va) ≡ 0
  unfolding entry_at
  upper_word va b =
      by_cases (dec_lt 0 (resolve s r (page_of va))) (λ p. omega (arith, page_of_lem (page_of va) (low tr r 2 (page_of va) rr (top_page va) p))) (λ n. omega arith)

  -- from 2 ^ 38 upward all is a fault: va is not canonical, or its index into the root is 256 or more
  pub upper_faults : (va : ℕ) (kind : Kind) → 2 ^ 38 ≤ va → va < 2 ^ 64 → translate (memory s other) (satp_of r) va kind ≡ fault
  unfolding translate finish
  upper_faults va kind h l = go (parity (va / 2 ^ 38))
    where
      any : (b : Bool) → cond b fault fault ≡ fault
      any true = refl
      any false = refl

      go : (bit 38 va ≡ 0) ⊎ (bit 38 va ≡ 1) → translate (memory s other) (satp_of r) va kind ≡ fault
      go (inl b) = rw (sv39_mode, ne_eqb (field 39 25 va) (bit 38 va * (2 ^ 25 - 1)) (not_canonical va h l b))
      go (inr b) = rw (walks va, upper_word va b) (any (eqb (mode (satp_of r)) 8 && canonical va))

  -- a page of the lower half that a user access reaches: the word grants it, and the address is in the word's frame
  pub reached : (va : ℕ) (kind : Kind) (pa : ℕ) → va < 2 ^ 38 → translate (memory s other) (satp_of r) va kind ≡ at pa
      → (granted kind (resolve s r (va / 4096)) ≡ true) × (pa ≡ frame_of (resolve s r (va / 4096)) + va % 4096)
  reached va kind pa h e =
      let_through (granted kind (resolve s r (va / 4096))) (frame_of (resolve s r (va / 4096)) + va % 4096) pa (sym (translates va kind h) ∙ e)

  -- the manual translates a user access of some kind exactly where the page is mapped with U and its word is usable
  pub answers_exactly : (va : ℕ) → va < 2 ^ 38
      → ((kind : Kind) × (pa : ℕ) × (translate (memory s other) (satp_of r) va kind ≡ at pa))
      ↔ (Mapped s r (va / 4096) × (bit bit_u (resolve s r (va / 4096)) ≡ 1) × (usable (resolve s r (va / 4096)) ≡ true))
  answers_exactly va h =
      let e : ℕ = resolve s r (va / 4096) in (
        λ q. let g = granted_parts q.0 e (reached va q.0 q.1 h q.2).0 in (g.0, g.1, g.2),
        λ q. let k = some_kind e q.2 in (k.0, frame_of e + va % 4096, translates va k.0 h ∙ rw (granted_of k.0 e q.0 q.1 q.2 k.1)),
      )

  -- a page that is mapped with U faults for every kind of access exactly at the two differences
  pub faults_exactly : (va : ℕ) → va < 2 ^ 38 → Mapped s r (va / 4096) → bit bit_u (resolve s r (va / 4096)) ≡ 1
      → ((kind : Kind) → translate (memory s other) (satp_of r) va kind ≡ fault) ↔ Differs (resolve s r (va / 4096))
  faults_exactly va h m u =
      let e : ℕ = resolve s r (va / 4096) in (
        λ f. ⊎_elim (λ q. let k = (answers_exactly va h).1 (m, u, q.0) in absurd (at_fault (sym k.2 ∙ f k.0))) (λ q. q.1) (either e),
        λ d kind. translates va kind h ∙ rw (differs_denied kind e d),
      )

  -- whatever is translated for root r lies in a frame that a level-0 word of r's own tree names
  pub isolation : (va : ℕ) (kind : Kind) (pa : ℕ) → va < 2 ^ 64 → translate (memory s other) (satp_of r) va kind ≡ at pa
      → (p : ℕ) × Mapped s r p × (frame_of (resolve s r p) ≤ pa) × (pa < frame_of (resolve s r p) + 4096)
  isolation va kind pa l e =
      by_cases (dec_lt va (2 ^ 38))
      (λ h.
      let q = reached va kind pa h e in
      (va / 4096, (granted_parts kind (resolve s r (va / 4096)) q.0).0, omega (arith, q.1), omega (arith, q.1)))
      (λ n. absurd (at_fault (sym e ∙ upper_faults va kind (omega arith) l)))
