-- What entering pages makes of a store, page by page: the tables that are hung and the words that are written.
use Rattle.std.specs.Prelude.{◌≡◌, List, [], ℕ, zero, suc, ◌+◌, ◌*◌, ◌/◌, ◌%◌, ◌^◌, ◌≤◌, ◌<◌, length, set}
use Rattle.store.specs.Store.{Store, store_of, pointer_to, frame_no}
use Rattle.store.specs.WellFormed.{Outside}
use Rattle.store.specs.Count.{lowest, free_tables}
use Rattle.store.specs.Walk.{slot_word, slot, resolve}
use Rattle.well_formed.specs.Root.{RootReady}
use Rattle.walk.specs.Missing.{missing}

-- the words with v in slot m, which is word m - 2; slots 0 and 1 are no words
abbrev pub put_slot : List ℕ → ℕ → ℕ → List ℕ
put_slot ws zero v = ws
put_slot ws (suc zero) v = ws
put_slot ws (suc (suc w)) v = set ws w v

-- slot m points to table t, and the mark of t names slot m
abbrev pub linked : Store → ℕ → ℕ → Store
linked s m t = record { words = put_slot s.words m (pointer_to t); tmarks = set s.tmarks t m; bytes = s.bytes; fmarks = s.fmarks }

-- slot m holds e
abbrev pub stored : Store → ℕ → ℕ → Store
stored s m e = record { words = put_slot s.words m e; tmarks = s.tmarks; bytes = s.bytes; fmarks = s.fmarks }

abbrev pub if_zero : ℕ → Store → Store → Store
if_zero zero a b = a
if_zero (suc x) a b = b

-- where slot m holds 0, the lowest free table is hung there; it is all zero already, since the store is well formed (W1)
unfoldable pub hang : Store → ℕ → Store
hang s m = if_zero (slot_word s.words m) (linked s m (lowest s.tmarks)) s

-- the two tables of page p of root r are hung where they are missing, the level-1 table before the level-0 table
unfoldable pub tabled : Store → ℕ → ℕ → Store
tabled s r p =
    let s₁ : Store = hang s (slot (slot_word s.words) r 0 (p / 512 / 512)) in
    hang s₁ (slot (slot_word s₁.words) r 1 (p / 512))

-- page p of root r gets the entry e: its tables are hung, then its word is written
unfoldable pub enter_page : Store → ℕ → ℕ → ℕ → Store
enter_page s r p e = stored (tabled s r p) (slot (slot_word (tabled s r p).words) r 2 p) e

-- pages p .. p + n - 1, upward, get the entries e, e + 1024, ..: each next one names the next frame
unfoldable pub enter_pages : Store → ℕ → ℕ → ℕ → ℕ → Store
enter_pages s r p zero e = s
enter_pages s r p (suc n) e = enter_pages (enter_page s r p e) r (suc p) n (e + 1024)

-- an entry that W4 allows at level 0 wherever it stands: V, bits 54 to 63 clear, and a frame outside the held window
pub record Plain (e : ℕ) : Type 0 where
  pub valid : e % 2 ≡ 1
  pub small : e < 2 ^ 54
  pub outside : Outside (frame_no e)

-- what entering those pages needs
pub record CanEnter (s : Store) (r p n e : ℕ) : Type 0 where
  pub at_root : RootReady s r
  pub pages : (i : ℕ) → i < n → p + i < 2 ^ 26
  pub unmapped : (i : ℕ) → i < n → resolve s r (p + i) ≡ 0
  pub plain : (i : ℕ) → i < n → Plain (e + 1024 * i)
  pub tables : missing s r p n ≤ free_tables s

-- words ws and table marks ms have become ws' and ms' as f makes them of a store, whatever its frames are
abbrev pub Becomes : List ℕ → List ℕ → (Store → Store) → List ℕ → List ℕ → Type 0
Becomes ws ms f ws' ms' = (bs fs : List ℕ) → store_of ws' ms' bs fs ≡ f (store_of ws ms bs fs)

-- what hanging the tables of page p asks of words and marks: numbers in range, and a slot in the level-1 table that a mark can hold
pub record Hangable (ws ms : List ℕ) (r p : ℕ) : Type 0 where
  pub tables : length ms ≤ 512
  pub is_root : r < 512
  pub page : p < 2 ^ 26
  pub fits : slot (slot_word (hang (store_of ws ms [] []) (slot (slot_word ws) r 0 (p / 512 / 512))).words) r 1 (p / 512) < 2 ^ 32

-- the words with e, e + 1024, .. in n slots from slot m on
unfoldable pub put_run : List ℕ → ℕ → ℕ → ℕ → List ℕ
put_run ws m zero e = ws
put_run ws m (suc n) e = put_run (put_slot ws m e) (suc m) n (e + 1024)

-- pages p .. p + n - 1 of one block: the tables are hung once, then the words are written in one run
unfoldable pub enter_run : Store → ℕ → ℕ → ℕ → ℕ → Store
enter_run s r p n e =
    let s₀ : Store = tabled s r p in
    store_of (put_run s₀.words (slot (slot_word s₀.words) r 2 p) n e) s₀.tmarks s₀.bytes s₀.fmarks

-- what entering them asks besides: n slots from that of page p on, and entries of 64 bits
pub record RunFits (ws ms : List ℕ) (r p n e : ℕ) : Type 0 where
  pub hangable : Hangable ws ms r p
  pub from : 2 ≤ slot (slot_word (tabled (store_of ws ms [] []) r p).words) r 2 p
  pub upto : slot (slot_word (tabled (store_of ws ms [] []) r p).words) r 2 p + n ≤ 2 + length ws
  pub small : e + 1024 * n < 2 ^ 64
