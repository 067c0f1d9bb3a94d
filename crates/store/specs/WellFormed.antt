-- W1 to W5 of document 01, word for word. ws are the table words, ms the table marks and fs the frame marks; word w is entry
-- w mod 512 of table floor(w / 512), and mark m of 2 or more names word m - 2.
use Rattle.std.specs.Prelude.{◌≡◌, ◌⊎◌, List, ℕ, suc, ◌+◌, ◌-◌, ◌/◌, ◌%◌, ◌^◌, ◌≤◌, ◌<◌, length}
use Rattle.store.specs.Store.{Store, word, mark, pointer_to, frame_no, pool_no}
use Rattle.store.specs.Level.{home, level}

-- a table of level 2 or 1
abbrev pub Inner : ℕ → Type 0
Inner l = (l ≡ 2) ⊎ (l ≡ 1)

-- W2: word m - 2, of the mark m of table t, points at t and lies in a table of level 2 or 1; the level of t is one less
pub record Pointed (ws ms : List ℕ) (t : ℕ) : Type 0 where
  pub word : word ws (mark ms t - 2) ≡ pointer_to t
  pub above : Inner (level ms (home (mark ms t)))
  pub less : level ms (home (mark ms t)) ≡ suc (level ms t)

-- W3: word w points to a table of the store whose mark is w + 2
pub record Points (ws ms : List ℕ) (w : ℕ) : Type 0 where
  pub to : ℕ
  pub there : to < length ms
  pub word : word ws w ≡ pointer_to to
  pub mark : mark ms to ≡ w + 2

-- a frame number outside the held window, which is 0x1_0000_0000 up to, not including, 0x1_2000_0000
abbrev pub Outside : ℕ → Type 0
Outside n = (n < 0x10_0000) ⊎ (0x12_0000 ≤ n)

-- n is the number of a pool frame whose mark is w + 2
pub record Held (fs : List ℕ) (n w : ℕ) : Type 0 where
  pub frame : ℕ
  pub there : frame < length fs
  pub number : n ≡ pool_no frame
  pub mark : mark fs frame ≡ w + 2

-- W4: word w has V and bits 54 to 63 clear, and its frame is outside the held window or a pool frame whose mark is w + 2
pub record Leaf (ws fs : List ℕ) (w : ℕ) : Type 0 where
  pub valid : word ws w % 2 ≡ 1
  pub clear : word ws w < 2 ^ 54
  pub frame : Outside (frame_no (word ws w)) ⊎ Held fs (frame_no (word ws w)) w

-- W5: the mark m of frame f is 2 or more, and word m - 2 stands at level 0 and names f
pub record Named (ws ms fs : List ℕ) (f : ℕ) : Type 0 where
  pub from_two : 2 ≤ mark fs f
  pub level : level ms (home (mark fs f)) ≡ 0
  pub names : frame_no (word ws (mark fs f - 2)) ≡ pool_no f

pub record WellFormed (s : Store) : Type 0 where
  pub w1 : (w : ℕ) → w < length s.words → mark s.tmarks (w / 512) ≡ 0 → word s.words w ≡ 0
  pub w2 : (t : ℕ) → t < length s.tmarks → 2 ≤ mark s.tmarks t → Pointed s.words s.tmarks t
  pub w3 : (w : ℕ) → w < length s.words → Inner (level s.tmarks (w / 512)) → (word s.words w ≡ 0) ⊎ Points s.words s.tmarks w
  pub w3_root : (w : ℕ) → w < length s.words → mark s.tmarks (w / 512) ≡ 1 → 256 ≤ w % 512 → word s.words w ≡ 0
  pub w4 : (w : ℕ) → w < length s.words → level s.tmarks (w / 512) ≡ 0 → (word s.words w ≡ 0) ⊎ Leaf s.words s.fmarks w
  pub w5 : (f : ℕ) → f < length s.fmarks → (mark s.fmarks f ≡ 0) ⊎ Named s.words s.tmarks s.fmarks f
