-- There are as many table marks after pages have been entered, filled or taken out. Assumes nothing.
use mathlib.Core.Path.{◌≡◌, refl, ◌∙◌}
use mathlib.Core.Bool.{Bool}
use mathlib.Core.List.{List}
use Prim.Native.Nat.{ℕ, zero, suc, ◌+◌, ◌/◌}
use lib.ListN.{length, length-set}
use Rattle.store.specs.Store.{Store}
use Rattle.store.specs.Count.{lowest}
use Rattle.store.specs.Walk.{slot_word, slot}
use Rattle.enter.specs.Enter.{linked, if_zero, hang, tabled, enter_page, enter_pages}
use Rattle.unmap.specs.Leave.{leave_slot, leave_page, leave_pages}
use Rattle.fresh.specs.Fill.{filled}
use Rattle.fresh.specs.Fresh.{fresh_page, fresh_pages}

-- s' has as many tables as s
abbrev pub SameTables : Store → Store → Type 0
SameTables s s' = length s'.tmarks ≡ length s.tmarks

hang_tables : (s : Store) (m : ℕ) → SameTables s (hang s m)
unfolding hang
hang_tables s m = go (slot_word s.words m)
  where
    go : (x : ℕ) → SameTables s (if_zero x (linked s m (lowest s.tmarks)) s)
    go zero = length-set s.tmarks (lowest s.tmarks) m
    go (suc x) = refl

tabled_tables : (s : Store) (r p : ℕ) → SameTables s (tabled s r p)
unfolding tabled
tabled_tables s r p =
    let s₁ : Store = hang s (slot (slot_word s.words) r 0 (p / 512 / 512)) in
    hang_tables s₁ (slot (slot_word s₁.words) r 1 (p / 512)) ∙ hang_tables s (slot (slot_word s.words) r 0 (p / 512 / 512))

pub enter_tables : (n : ℕ) (s : Store) (r p e : ℕ) → SameTables s (enter_pages s r p n e)
unfolding enter_pages enter_page
enter_tables zero s r p e = refl
enter_tables (suc n) s r p e = enter_tables n (enter_page s r p e) r (suc p) (e + 1024) ∙ tabled_tables s r p

pub fresh_table : (s : Store) (r p q : ℕ) (b : List ℕ) → SameTables s (fresh_page s r p q b)
unfolding fresh_page filled
fresh_table s r p q b = tabled_tables s r p

pub fresh_tables : (n : ℕ) (s : Store) (r p : ℕ) (q : ℕ → ℕ) (b : ℕ → List ℕ) → SameTables s (fresh_pages s r p n q b)
unfolding fresh_pages
fresh_tables zero s r p q b = refl
fresh_tables (suc n) s r p q b = fresh_tables n (fresh_page s r p (q p) (b p)) r (suc p) q b ∙ fresh_table s r p (q p) (b p)

pub leave_tables : (n : ℕ) (s : Store) (r p : ℕ) (freeing : Bool) → SameTables s (leave_pages s r p n freeing)
unfolding leave_pages leave_slot
leave_tables zero s r p freeing = refl
leave_tables (suc n) s r p freeing = leave_tables n (leave_page s r p freeing) r (suc p) freeing
