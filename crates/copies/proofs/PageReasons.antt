-- Why the page of an address may not be used, from the bits of its word. Assumes nothing.
use mathlib.Core.Path.{◌≡◌, sym, ap, ◌∙◌}
use mathlib.Core.Logic.{by_cases}
use mathlib.Core.List.{List}
use Prim.Native.Nat.{ℕ, ◌+◌, ◌-◌, ◌*◌, ◌/◌, ◌%◌, ◌^◌, ◌≤◌, ◌<◌}
use native.Mathlib.Decide.{ℕ_discrete, dec_lt}
use native.Mathlib.Omega.{arith}
use lib.ListN.{length}
use lib.Bits.{bit_and, and_high}
use Rattle.address.specs.Field.{bit}
use Rattle.page_table_entry.specs.Layout.{bit_v, bit_u}
use Rattle.store.specs.Store.{Store, frame_no}
use Rattle.store.specs.Walk.{slot_word, slot, entry_at, resolve}
use Rattle.store.specs.Outcome.{NoReason, Smallest}
use Rattle.well_formed.specs.Root.{RootReady}
use Rattle.walk.specs.Mapped.{Mapped}
use Rattle.walk.specs.Missing.{entry_in}
use Rattle.walk.proofs.MissingLaws.{entry_in_lem}
use Rattle.walk.proofs.Pages.{counted_mapped, mapped_counted}
use Rattle.walk.proofs.Calls.{root_in}
use Rattle.unmap.proofs.PoolLaws.{pool_counted, counted_pool}
use Rattle.copies.specs.Bytes.{Placed, IsPlace}
use Rattle.copies.specs.Needed.{PageReason, too_high, unmapped, no_user, foreign, PageReady}

sixteen : (q : ℕ) → q * 16 ≡ 16 → q ≡ 1
sixteen q h = omega arith

-- a count with the mask 16 and the bits 16
module _ (s : Store) (r p : ℕ) where
  pub counted_user : bit_and (entry_in s.words r 2 p) 16 ≡ 16 → bit bit_u (resolve s r p) ≡ 1
  counted_user h = ap (bit bit_u) (sym (entry_in_lem s r 2 p)) ∙ sixteen (bit bit_u (entry_in s.words r 2 p)) (sym (and_high (entry_in s.words r 2 p) 1 4) ∙ h)

  pub user_counted : bit bit_u (resolve s r p) ≡ 1 → bit_and (entry_in s.words r 2 p) 16 ≡ 16
  user_counted h = omega (arith, and_high (entry_in s.words r 2 p) 1 4, entry_in_lem s r 2 p)

-- their numbers
pub page_range : {s : Store} {r a k : ℕ} → PageReason s r a k → (6 ≤ k) × (k ≤ 15)
page_range (too_high h) = omega arith
page_range (unmapped h) = omega arith
page_range (no_user h) = omega arith
page_range (foreign h) = omega arith

-- where the page can be used none applies
pub page_clear : {s : Store} {r a : ℕ} → PageReady s r a → NoReason (PageReason s r a)
page_clear f k (too_high h) = omega (arith, f.below)
page_clear f k (unmapped h) = h f.mapped
page_clear f k (no_user h) = h f.user
page_clear f k (foreign h) = h f.pool

-- and where none applies it can be used
pub page_where : (s : Store) (r a : ℕ) → NoReason (PageReason s r a) → PageReady s r a
page_where s r a clear =
    let e : ℕ = resolve s r (a / 4096) in
    record {
      below = by_cases (dec_lt a (2 ^ 38)) (λ l. l) (λ l. absurd (clear 6 (too_high (omega arith))));
      mapped = by_cases (ℕ_discrete (bit bit_v e) 1) (λ q. q) (λ q. absurd (clear 11 (unmapped q)));
      user = by_cases (ℕ_discrete (bit bit_u e) 1) (λ q. q) (λ q. absurd (clear 12 (no_user q)));
      pool =
          by_cases (dec_lt (frame_no e) 0x11_0000) (λ l. absurd (clear 15 (foreign (λ q. omega (arith, q.number)))))
          (λ l. by_cases (dec_lt (frame_no e - 0x11_0000) (length s.fmarks)) (λ h. record { frame = frame_no e - 0x11_0000; there = h; number = omega arith })
          (λ h. absurd (clear 15 (foreign (λ q. omega (arith, q.number, q.there))))));
    }

module _ (s : Store) (r a : ℕ) where
  abbrev R : ℕ → Type 0
  R = PageReason s r a

  abbrev F : Type 0
  F = PageReady s r a

  least : (n : ℕ) → (6 < n → a < 2 ^ 38) → (11 < n → Mapped s r (a / 4096)) → (12 < n → bit bit_u (resolve s r (a / 4096)) ≡ 1) → (k : ℕ) → k < n → k < 15 → R k → ⊥
  least n b m u k l g (too_high h) = omega (arith, b l)
  least n b m u k l g (unmapped h) = h (m l)
  least n b m u k l g (no_user h) = h (u l)
  least n b m u k l g (foreign h) = omega arith

  pub no_6 : 2 ^ 38 ≤ a → Smallest R 6
  no_6 h = record { applies = too_high h; least = λ k l. least 6 (λ q. absurd (omega arith)) (λ q. absurd (omega arith)) (λ q. absurd (omega arith)) k l (omega arith) }

  -- m is the slot of the page, and e is the word in it
  module _ (f : RootReady s r) (b : a < 2 ^ 38) (m e : ℕ) (em : m ≡ slot (slot_word s.words) r 2 (a / 4096)) (ee : e ≡ slot_word s.words m) where
    word : e ≡ entry_in s.words r 2 (a / 4096)
    word = ee ∙ ap (slot_word s.words) em

    pub no_11 : (bit_and e 1 ≡ 1 → ⊥) → Smallest R 11
    no_11 h =
        record { applies = unmapped (λ q. h (ap (λ (x : ℕ). bit_and x 1) word ∙ mapped_counted s r (a / 4096) q)); least = λ k l. least 11 (λ _. b) (λ q. absurd (omega arith)) (λ q. absurd (omega arith)) k l (omega arith) }

    module _ (v : bit_and e 1 ≡ 1) where
      valid : Mapped s r (a / 4096)
      valid = counted_mapped s r (a / 4096) (sym (ap (λ (x : ℕ). bit_and x 1) word) ∙ v)

      pub no_12 : (bit_and e 16 ≡ 16 → ⊥) → Smallest R 12
      no_12 h =
          record { applies = no_user (λ q. h (ap (λ (x : ℕ). bit_and x 16) word ∙ user_counted s r (a / 4096) q)); least = λ k l. least 12 (λ _. b) (λ _. valid) (λ q. absurd (omega arith)) k l (omega arith) }

      module _ (u : bit_and e 16 ≡ 16) where
        user : bit bit_u (resolve s r (a / 4096)) ≡ 1
        user = counted_user s r (a / 4096) (sym (ap (λ (x : ℕ). bit_and x 16) word) ∙ u)

        pub no_15 : (bit_and e 0xFFFF_FFFF_F800_0000 ≡ 0x4000_0000 → ⊥) → Smallest R 15
        no_15 h =
            record {
              applies = foreign (λ q. h (ap (λ (x : ℕ). bit_and x 0xFFFF_FFFF_F800_0000) word ∙ pool_counted s f.sized r (a / 4096) q));
              least = λ k l. least 15 (λ _. b) (λ _. valid) (λ _. user) k l l;
            }

        pub all_ready : bit_and e 0xFFFF_FFFF_F800_0000 ≡ 0x4000_0000 → F
        all_ready h =
            record {
              below = b;
              mapped = valid;
              user = user;
              pool = counted_pool s f.sized r (a / 4096) f.formed f.is_root (omega arith) (sym (ap (λ (x : ℕ). bit_and x 0xFFFF_FFFF_F800_0000) word) ∙ h);
            }

-- the byte at an address whose page can be used has a place
pub placed : (s : Store) (r a : ℕ) → RootReady s r → PageReady s r a → Placed s.words r a
placed s r a f p = record {
  is_root = root_in s r f.sized f.is_root;
  below = p.below;
  from = omega (arith, p.pool.number, entry_in_lem s r 2 (a / 4096));
  upto = omega (arith, p.pool.number, p.pool.there, f.sized.frames_to, entry_in_lem s r 2 (a / 4096));
}

-- what the code of that place finds
module _ (ws : List ℕ) (r a m e : ℕ) (em : m ≡ slot (slot_word ws) r 2 (a / 4096)) (ee : e ≡ slot_word ws m) where
  place_word : e ≡ entry_in ws r 2 (a / 4096)
  place_word = ee ∙ ap (slot_word ws) em

  pub place_is : IsPlace ws r a (4096 * (e / 1024 - 0x11_0000) + a % 4096)
  unfolding entry_at
  place_is ms bs fs = ap (λ (x : ℕ). 4096 * (frame_no x - 0x11_0000) + a % 4096) place_word
