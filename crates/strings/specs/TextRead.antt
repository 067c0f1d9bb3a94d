-- What holds after `copy_in_str` has read n bytes from va on into the buffer dst, which became dst'.
use Rattle.std.specs.Prelude.{◌≡◌, Bool, true, false, List, ℕ, ◌+◌, ◌≤◌, ◌<◌, length, get_or}
use Rattle.store.specs.Store.{Store}
use Rattle.copies.specs.Bytes.{byte_at}
use Rattle.copies.specs.Needed.{PageReady, Needs}

pub record TextRead (s : Store) (root va : ℕ) (dst : List ℕ) (n : ℕ) (met : Bool) (dst' : List ℕ) : Type 0 where
  -- the pages looked at, those of the bytes and of the zero, could be read; for a buffer of no bytes, the page of the address
  pub pages : (i : ℕ) → i ≤ n → Needs (length dst) i → PageReady s root (va + i)
  -- the first n bytes of the buffer are the bytes from va on, and none of them is zero
  pub bytes : (i : ℕ) → i < n → get_or dst' i 0 ≡ byte_at s root (va + i)
  pub before : (i : ℕ) → i < n → byte_at s root (va + i) ≡ 0 → ⊥
  -- a zero that was met lies behind them, within the buffer's length; without one the buffer was filled whole
  pub zero : met ≡ true → (n < length dst) × (byte_at s root (va + n) ≡ 0)
  pub whole : met ≡ false → n ≡ length dst
  -- the zero is not written, and the rest of the buffer stays
  pub size : length dst' ≡ length dst
  pub rest : (i : ℕ) → n ≤ i → get_or dst' i 0 ≡ get_or dst i 0
