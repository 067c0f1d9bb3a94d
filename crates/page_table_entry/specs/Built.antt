-- The entries that are built: field by field, in closed form, and what is refused.
use Rattle.std.specs.Prelude.{◌≡◌, ℕ, ◌+◌, ◌*◌, ◌/◌, ◌^◌, ◌<◌, ltb, leb, Result}
use Rattle.refusal.specs.declared.Refusal.{Refusal}
use Rattle.address.specs.Field.{bit}
use Rattle.address.specs.Answer.{Said, answered, refused, said, pick}
use Rattle.page_table_entry.specs.Layout.{bit_v, flags, frame_number, above_frame}
use Rattle.page_table_entry.specs.Change.{with_bit}
use Rattle.page_table_entry.specs.declared.PageTableEntry.{PageTableEntry}

abbrev pub entry_said : Result PageTableEntry Refusal → Said
entry_said r = said (λ e. e.0) r

-- the frame number shifted left by 10
abbrev pub name_of : ℕ → ℕ
name_of pa = pa / 4096 * 1024

-- the same, with the permissions and V
abbrev pub entry_of : ℕ → ℕ → ℕ
entry_of pa perm = name_of pa + with_bit bit_v 1 perm

-- what `as_pte` says: 9 for a frame at or above 2 ^ 56, else the entry
unfoldable pub named : ℕ → Said
named pa = pick (leb (2 ^ 56) pa) (refused 9) (answered (name_of pa))

-- what `write_perm` says: 8 for permissions above 1023, then 9 for a frame at or above 2 ^ 56, else the entry
unfoldable pub written : ℕ → ℕ → Said
written pa perm = pick (ltb 1023 perm) (refused 8) (pick (leb (2 ^ 56) pa) (refused 9) (answered (entry_of pa perm)))

-- the entry e by its fields, as `as_pte` builds it, and as `write_perm` does
pub record IsName (pa e : ℕ) : Type 0 where
  pub flag : flags e ≡ 0
  pub frame : frame_number e ≡ pa / 4096
  pub above : above_frame e ≡ 0

pub record IsEntry (pa perm e : ℕ) : Type 0 where
  pub valid : bit bit_v e ≡ 1
  pub flag : (k : ℕ) → 0 < k → k < 10 → bit k e ≡ bit k perm
  pub frame : frame_number e ≡ pa / 4096
  pub above : above_frame e ≡ 0

-- what s says, whole, and of the entry that it answers, field by field
pub record Named (pa : ℕ) (s : Said) : Type 0 where
  pub whole : s ≡ named pa
  pub fields : (e : ℕ) → s ≡ answered e → IsName pa e

pub record Written (pa perm : ℕ) (s : Said) : Type 0 where
  pub whole : s ≡ written pa perm
  pub fields : (e : ℕ) → s ≡ answered e → IsEntry pa perm e
