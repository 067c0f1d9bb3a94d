-- The numbers of each call's reasons, and that the reasons of a named root are among them. Assumes nothing.
use mathlib.Core.Path.{◌≡◌, refl}
use mathlib.Core.Logic.{inl, inr}
use mathlib.Core.Bool.{Bool, false, true≢false}
use mathlib.Core.List.{List, [], ◌∷◌}
use Prim.Native.Nat.{ℕ, zero, suc, ◌%◌}
use Rattle.std.specs.Prelude.{Result, Err}
use Rattle.refusal.specs.declared.Refusal.{Refusal}
use Rattle.refusal.specs.Number.{number_of}
use Rattle.store.specs.Store.{Store}
use Rattle.store.specs.SetUp as set_up
use Rattle.well_formed.specs.Check as check
use Rattle.well_formed.specs.Root as root
use Rattle.translate.specs.Translate as translate
use Rattle.map.specs.Create as create
use Rattle.map.specs.Numbers as range
use Rattle.map.specs.Reasons as map
use Rattle.unmap.specs.Leave as leave
use Rattle.unmap.specs.Unmap as unmap
use Rattle.unmap.specs.Clear as clear
use Rattle.shrink.specs.Sizes as sizes
use Rattle.fresh.specs.Fresh as fresh
use Rattle.grow.specs.Init as init
use Rattle.grow.specs.Grow as grow
use Rattle.shrink.specs.Shrink as shrink
use Rattle.copies.specs.Needed as needed
use Rattle.strings.specs.Str as str
use Rattle.child.specs.Child as child
use Rattle.release.specs.Free as free
use Rattle.process.specs.Parts.{Then, UvmFree, UnmapOne, trampoline, trapframe, SharedFree, ProcFree}
use Rattle.sequences.specs.Numbers.{after_two, after_root, among, Listed}

root_listed : {s : Store} {r k : ℕ} (ns : List ℕ) → root.RootReason s r k → Listed k (after_root ns)
unfolding among
root_listed ns (root.sizes h) = refl
root_listed ns (root.unformed h) = refl
root_listed ns (root.no_root h) = refl

pub set_up_listed : {s : Store} {k : ℕ} → set_up.SetUpReason s k → Listed k (1 ∷ [])
unfolding among
set_up_listed (set_up.sizes h) = refl

pub check_listed : {s : Store} {k : ℕ} → check.CheckReason s k → Listed k (1 ∷ [])
unfolding among
check_listed (check.sizes h) = refl

pub create_listed : {s : Store} {k : ℕ} → create.CreateReason s k → Listed k (after_two (17 ∷ []))
unfolding among
create_listed (create.sizes h) = refl
create_listed (create.unformed h) = refl
create_listed (create.no_table h) = refl

pub translate_listed : {s : Store} {r va k : ℕ} → translate.TranslateReason s r va k → Listed k (after_root (6 ∷ 11 ∷ 12 ∷ []))
unfolding among
translate_listed (translate.at_root h) = root_listed (6 ∷ 11 ∷ 12 ∷ []) h
translate_listed (translate.too_high h) = refl
translate_listed (translate.unmapped h) = refl
translate_listed (translate.no_user h) = refl

pub satp_listed : {s : Store} {r k : ℕ} → root.RootReason s r k → Listed k (after_root [])
satp_listed = root_listed []

pub map_listed : {s : Store} {r va pa size perm k : ℕ} → map.MapReason s r va pa size perm k → Listed k (after_root (6 ∷ 8 ∷ 9 ∷ 10 ∷ 14 ∷ 17 ∷ []))
unfolding among
map_listed (map.at_root h) = root_listed (6 ∷ 8 ∷ 9 ∷ 10 ∷ 14 ∷ 17 ∷ []) h
map_listed (map.numbers (range.too_long h)) = refl
map_listed (map.numbers (range.too_high p f l h)) = refl
map_listed (map.numbers (range.permissions h)) = refl
map_listed (map.numbers (range.frame_high i l h)) = refl
map_listed (map.numbers (range.held i l h)) = refl
map_listed (map.taken p f l h) = refl
map_listed (map.too_few h) = refl

pub clear_listed : {s : Store} {r va k : ℕ} → clear.ClearReason s r va k → Listed k (after_root (6 ∷ 11 ∷ []))
unfolding among
clear_listed (clear.at_root h) = root_listed (6 ∷ 11 ∷ []) h
clear_listed (clear.too_high h) = refl
clear_listed (clear.no_table h) = refl

pub init_listed : {s : Store} {r k : ℕ} {src : List ℕ} → init.InitReason s r src k → Listed k (after_root (5 ∷ 14 ∷ 16 ∷ 17 ∷ []))
unfolding among
init_listed (init.at_root h) = root_listed (5 ∷ 14 ∷ 16 ∷ 17 ∷ []) h
init_listed (init.too_long h) = refl
init_listed (init.page (fresh.taken i l h)) = refl
init_listed (init.page (fresh.no_frames h)) = refl
init_listed (init.page (fresh.no_tables h)) = refl

pub grow_listed : {s : Store} {r old new k : ℕ} → grow.GrowReason s r old new k → Listed k (after_root (6 ∷ 14 ∷ 16 ∷ 17 ∷ []))
unfolding among
grow_listed (grow.sizes (sizes.at_root h)) = root_listed (6 ∷ 14 ∷ 16 ∷ 17 ∷ []) h
grow_listed (grow.sizes (sizes.too_large h)) = refl
grow_listed (grow.pages (fresh.taken i l h)) = refl
grow_listed (grow.pages (fresh.no_frames h)) = refl
grow_listed (grow.pages (fresh.no_tables h)) = refl

-- with freeing no page meets 10
pub shrink_listed : {s : Store} {r old new k : ℕ} → shrink.ShrinkReason s r old new k → Listed k (after_root (6 ∷ 11 ∷ 13 ∷ []))
unfolding among
shrink_listed (shrink.sizes (sizes.at_root h)) = root_listed (6 ∷ 11 ∷ 13 ∷ []) h
shrink_listed (shrink.sizes (sizes.too_large h)) = refl
shrink_listed (shrink.pages (leave.pooled h)) = absurd (true≢false h.0)
shrink_listed (shrink.pages (leave.unmapped i l h)) = refl
shrink_listed (shrink.pages (leave.bare i l h)) = refl

page_listed : {s : Store} {r a k : ℕ} → needed.PageReason s r a k → Listed k (after_root (6 ∷ 11 ∷ 12 ∷ 15 ∷ []))
unfolding among
page_listed (needed.too_high h) = refl
page_listed (needed.unmapped h) = refl
page_listed (needed.no_user h) = refl
page_listed (needed.foreign h) = refl

pub copy_listed : {s : Store} {r va n k : ℕ} → needed.CopyReason s r va n k → Listed k (after_root (6 ∷ 11 ∷ 12 ∷ 15 ∷ []))
unfolding among
copy_listed (needed.at_root h) = root_listed (6 ∷ 11 ∷ 12 ∷ 15 ∷ []) h
copy_listed (needed.page i x h) = page_listed h

pub str_listed : {s : Store} {r va n k : ℕ} → str.StrReason s r va n k → Listed k (after_root (6 ∷ 11 ∷ 12 ∷ 15 ∷ []))
unfolding among
str_listed (str.at_root h) = root_listed (6 ∷ 11 ∷ 12 ∷ 15 ∷ []) h
str_listed (str.page i x b h) = page_listed h

pub child_listed : {s : Store} {p c size k : ℕ} → child.ChildReason s p c size k → Listed k (after_root (4 ∷ 6 ∷ 7 ∷ 11 ∷ 14 ∷ 15 ∷ 16 ∷ 17 ∷ []))
unfolding among
child_listed (child.at_parent h) = root_listed (4 ∷ 6 ∷ 7 ∷ 11 ∷ 14 ∷ 15 ∷ 16 ∷ 17 ∷ []) h
child_listed (child.at_child h) = root_listed (4 ∷ 6 ∷ 7 ∷ 11 ∷ 14 ∷ 15 ∷ 16 ∷ 17 ∷ []) h
child_listed (child.same h) = refl
child_listed (child.too_large h) = refl
child_listed (child.unaligned h) = refl
child_listed (child.unmapped p l h) = refl
child_listed (child.foreign p l h) = refl
child_listed (child.fresh (fresh.taken i l h)) = refl
child_listed (child.fresh (fresh.no_frames h)) = refl
child_listed (child.fresh (fresh.no_tables h)) = refl

-- ---- `uvm_unmap`, `free` and the calls made of them; ns is a list with the numbers that can be met

module _ (ns : List ℕ) (one : Listed 1 ns) (two : Listed 2 ns) (three : Listed 3 ns) where
  free_part : {s : Store} {r k : ℕ} → Listed 18 ns → free.FreeReason s r k → Listed k ns
  free_part eighteen (free.at_root (root.sizes h)) = one
  free_part eighteen (free.at_root (root.unformed h)) = two
  free_part eighteen (free.at_root (root.no_root h)) = three
  free_part eighteen (free.mapped h) = eighteen

  module _ (six : Listed 6 ns) (eleven : Listed 11 ns) (thirteen : Listed 13 ns) where
    unmap_part : {s : Store} {r va n k : ℕ} {freeing : Bool} → ((va % 4096 ≡ 0 → ⊥) → Listed 7 ns) → (freeing ≡ false → Listed 10 ns) → unmap.UnmapReason s r va n freeing k → Listed k ns
    unmap_part seven ten (unmap.at_root (root.sizes h)) = one
    unmap_part seven ten (unmap.at_root (root.unformed h)) = two
    unmap_part seven ten (unmap.at_root (root.no_root h)) = three
    unmap_part seven ten (unmap.too_high h) = six
    unmap_part seven ten (unmap.unaligned h) = seven h
    unmap_part seven ten (unmap.pages (leave.pooled h)) = ten h.0
    unmap_part seven ten (unmap.pages (leave.unmapped i l h)) = eleven
    unmap_part seven ten (unmap.pages (leave.bare i l h)) = thirteen

    uvm_free_part : (r size : ℕ) (s : Store) (k : Refusal) (s' : Store) → Listed 18 ns → UvmFree r size s (Err k) s' → Listed (number_of k) ns
    uvm_free_part r zero s k s' eighteen u = free_part eighteen u.0.applies
    uvm_free_part r (suc size) s k s' eighteen (inl u, e) = unmap_part (λ n. absurd (n refl)) (λ b. absurd (true≢false b)) u.0.applies
    uvm_free_part r (suc size) s k s' eighteen (inr (v, s₁, x, u), e) = free_part eighteen u.0.applies

    -- the page at va leaves without freeing, and then comes part q
    one_part : (q : Store → Result ℕ Refusal → Store → Type 0) → ((s : Store) (k : Refusal) (s' : Store) → q s (Err k) s' → Listed (number_of k) ns) → Listed 10 ns
        → (r va : ℕ) → va % 4096 ≡ 0 → (s : Store) (k : Refusal) (s' : Store) → Then (UnmapOne r va) q s (Err k) s' → Listed (number_of k) ns
    one_part q rest ten r va e s k s' (inl u, _) = unmap_part (λ n. absurd (n e)) (λ _. ten) u.0.applies
    one_part q rest ten r va e s k s' (inr (v, s₁, x, u), _) = rest s₁ k s₁ u

pub unmap_listed : {s : Store} {r va n k : ℕ} {freeing : Bool} → unmap.UnmapReason s r va n freeing k → Listed k (after_root (6 ∷ 7 ∷ 10 ∷ 11 ∷ 13 ∷ []))
unfolding among
unmap_listed = unmap_part (after_root (6 ∷ 7 ∷ 10 ∷ 11 ∷ 13 ∷ [])) refl refl refl refl refl refl (λ _. refl) (λ _. refl)

pub free_listed : {s : Store} {r k : ℕ} → free.FreeReason s r k → Listed k (after_root (18 ∷ []))
unfolding among
free_listed = free_part (after_root (18 ∷ [])) refl refl refl refl

pub uvm_free_listed : (r size : ℕ) (s : Store) (k : Refusal) (s' : Store) → UvmFree r size s (Err k) s' → Listed (number_of k) (after_root (6 ∷ 11 ∷ 13 ∷ 18 ∷ []))
unfolding among
uvm_free_listed r size s k s' = uvm_free_part (after_root (6 ∷ 11 ∷ 13 ∷ 18 ∷ [])) refl refl refl refl refl refl r size s k s' refl

abbrev with_ten : List ℕ
with_ten = after_root (6 ∷ 10 ∷ 11 ∷ 13 ∷ 18 ∷ [])

rest_listed : (r size : ℕ) (s : Store) (k : Refusal) (s' : Store) → UvmFree r size s (Err k) s' → Listed (number_of k) with_ten
unfolding among
rest_listed r size s k s' = uvm_free_part with_ten refl refl refl refl refl refl r size s k s' refl

then_listed : (q : Store → Result ℕ Refusal → Store → Type 0) → ((s : Store) (k : Refusal) (s' : Store) → q s (Err k) s' → Listed (number_of k) with_ten)
    → (r va : ℕ) → va % 4096 ≡ 0 → (s : Store) (k : Refusal) (s' : Store) → Then (UnmapOne r va) q s (Err k) s' → Listed (number_of k) with_ten
unfolding among
then_listed q rest = one_part with_ten refl refl refl refl refl refl q rest refl

pub shared_free_listed : (r size : ℕ) (s : Store) (k : Refusal) (s' : Store) → SharedFree r size s (Err k) s' → Listed (number_of k) with_ten
shared_free_listed r size = then_listed (UvmFree r size) (rest_listed r size) r trampoline refl

pub proc_free_listed : (r size : ℕ) (s : Store) (k : Refusal) (s' : Store) → ProcFree r size s (Err k) s' → Listed (number_of k) with_ten
proc_free_listed r size = then_listed (Then (UnmapOne r trapframe) (UvmFree r size)) (then_listed (UvmFree r size) (rest_listed r size) r trapframe refl) r trampoline refl

-- ---- the reasons of a named root

pub map_root : {s : Store} {r va pa size perm : ℕ} (k : ℕ) → root.RootReason s r k → map.MapReason s r va pa size perm k
map_root k h = map.at_root h

pub unmap_root : {s : Store} {r va n : ℕ} {freeing : Bool} (k : ℕ) → root.RootReason s r k → unmap.UnmapReason s r va n freeing k
unmap_root k h = unmap.at_root h

pub clear_root : {s : Store} {r va : ℕ} (k : ℕ) → root.RootReason s r k → clear.ClearReason s r va k
clear_root k h = clear.at_root h
