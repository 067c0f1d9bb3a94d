-- The store: four lent slices, their sizes, and the numbers of words, tables and frames.
use Rattle.std.specs.Prelude.{◌≡◌, List, ℕ, ◌+◌, ◌*◌, ◌/◌, ◌≤◌, length, get_or}
use Rattle.store.specs.declared.Store.{Store as Lent}

-- table words, table marks, frame bytes, frame marks
pub record Store : Type 0 where
  pub words : List ℕ
  pub tmarks : List ℕ
  pub bytes : List ℕ
  pub fmarks : List ℕ

abbrev pub store_of : List ℕ → List ℕ → List ℕ → List ℕ → Store
store_of ws ms bs fs = record { words = ws; tmarks = ms; bytes = bs; fmarks = fs }

-- what a call sees in the slices that it is lent for reading
abbrev pub seen : Lent → Store
seen s = store_of s.words.now s.tmarks.now s.bytes.now s.fmarks.now

-- T is the number of table marks and F that of frame marks; the other two slices have exactly their lengths
pub record Sized (s : Store) : Type 0 where
  pub tables_from : 1 ≤ length s.tmarks
  pub tables_to : length s.tmarks ≤ 512
  pub frames_from : 1 ≤ length s.fmarks
  pub frames_to : length s.fmarks ≤ 4096
  pub words : length s.words ≡ 512 * length s.tmarks
  pub bytes : length s.bytes ≡ 4096 * length s.fmarks

-- word w, and the mark of table or frame i; 0 past the end
abbrev pub word : List ℕ → ℕ → ℕ
word ws w = get_or ws w 0

abbrev pub mark : List ℕ → ℕ → ℕ
mark ms i = get_or ms i 0

-- the word that points to table t, which lies at 0x1_0000_0000 + 4096t
abbrev pub pointer_to : ℕ → ℕ
pointer_to t = 0x4000_0000 + 1024 * t + 1

-- the frame number of a word whose bits 54 to 63 are clear, and that of pool frame f, which lies at 0x1_1000_0000 + 4096f
abbrev pub frame_no : ℕ → ℕ
frame_no e = e / 1024

abbrev pub pool_no : ℕ → ℕ
pool_no f = 0x11_0000 + f
