-- What is left where a call is answered: a store as long, and sound where it was sound; and the two calls that name no root. Assumes nothing.
use mathlib.Core.Path.{◌≡◌, sym, ap, ◌∙◌, subst}
use mathlib.Core.Logic.{by_cases}
use Prim.Native.Nat.{ℕ, ◌*◌, ◌<◌}
use native.Mathlib.Decide.{ℕ_discrete, dec_lt, dec_le}
use native.Mathlib.Omega.{arith}
use lib.ListN.{length, length-set, length-replicate}
use Rattle.std.specs.Prelude.{Ok}
use Rattle.store.specs.Store.{Store, Sized, mark}
use Rattle.store.specs.Count.{lowest, free_tables}
use Rattle.store.specs.SetUp as set_up
use Rattle.store.specs.SetUp.{fresh, SetUp}
use Rattle.store.specs.Outcome.{NoReason}
use Rattle.store.proofs.SetUp.{fresh_well_formed}
use Rattle.well_formed.specs.Root.{RootReason, sizes, unformed, no_root, RootReady}
use Rattle.map.specs.Create as create
use Rattle.map.proofs.CreateLaws.{create_creates}
use Rattle.sequences.specs.Laws.{Sound, AsLong}
use Rattle.sequences.proofs.Tables.{SameTables}

-- what an answered call leaves of s
pub record Left (s s' : Store) : Type 0 where
  pub lengths : AsLong s s'
  pub sound : Sound s → Sound s'

-- the same, found where s is sound: s' is sound and has as many tables and frames
pub record KeptSound (s s' : Store) : Type 0 where
  pub sound : Sound s'
  pub tables : SameTables s s'
  pub frames : length s'.fmarks ≡ length s.fmarks

stable : (m n : ℕ) → ((m ≡ n → ⊥) → ⊥) → m ≡ n
stable m n h = by_cases (ℕ_discrete m n) (λ e. e) (λ e. absurd (h e))

-- where s cannot be unsound, lengths that are kept when it is sound are kept
left_of : (s s' : Store) → ((Sound s → ⊥) → ⊥) → (Sound s → KeptSound s s') → Left s s'
left_of s s' some k = record {
  lengths = record {
    words = stable (length s'.words) (length s.words) (λ h. some (λ o. h (omega (arith, (k o).sound.sized.words, o.sized.words, (k o).tables))));
    tmarks = stable (length s'.tmarks) (length s.tmarks) (λ h. some (λ o. h (k o).tables));
    bytes = stable (length s'.bytes) (length s.bytes) (λ h. some (λ o. h (omega (arith, (k o).sound.sized.bytes, o.sized.bytes, (k o).frames))));
    fmarks = stable (length s'.fmarks) (length s.fmarks) (λ h. some (λ o. h (k o).frames));
  };
  sound = λ o. (k o).sound;
}

-- of a call whose reasons R have those of a named root among them, and none of which applies
module _ (s : Store) (root : ℕ) (R : ℕ → Type 0) (up : (k : ℕ) → RootReason s root k → R k) (none : NoReason R) where
  pub ready_at : Sound s → RootReady s root
  ready_at o = record {
    sized = o.sized;
    formed = o.formed;
    is_root = by_cases (ℕ_discrete (mark s.tmarks root) 1) (λ e. e) (λ n. absurd (none 3 (up 3 (no_root n))));
  }

  pub left_at : (s' : Store) → (RootReady s root → KeptSound s s') → Left s s'
  left_at s' k =
      left_of s s' (λ h. none 1 (up 1 (sizes (λ z. none 2 (up 2 (unformed (λ w. h (record { sized = z; formed = w }))))))))
      (λ o. k (ready_at o))

as_long_sized : (s s' : Store) → AsLong s s' → Sized s → Sized s'
as_long_sized s s' e z = record {
  tables_from = omega (arith, e.tmarks, z.tables_from);
  tables_to = omega (arith, e.tmarks, z.tables_to);
  frames_from = omega (arith, e.fmarks, z.frames_from);
  frames_to = omega (arith, e.fmarks, z.frames_to);
  words = omega (arith, e.words, e.tmarks, z.words);
  bytes = omega (arith, e.bytes, e.fmarks, z.bytes);
}

-- ---- calls that name no root

fresh_long : (s : Store) → AsLong s (fresh s)
fresh_long s = record {
  words = length-replicate {A = ℕ} (length s.words) 0;
  tmarks = length-replicate {A = ℕ} (length s.tmarks) 0;
  bytes = length-replicate {A = ℕ} (length s.bytes) 0;
  fmarks = length-replicate {A = ℕ} (length s.fmarks) 0;
}

fresh_sound : (s : Store) → Sized s → Sound (fresh s)
fresh_sound s z = record { sized = as_long_sized s (fresh s) (fresh_long s) z; formed = fresh_well_formed s }

pub set_up_left : (s : Store) (v : ℕ) (s' : Store) → SetUp s (Ok v) s' → Left s s'
set_up_left s v s' u = subst (Left s) (sym u.1.1) (record { lengths = fresh_long s; sound = λ o. fresh_sound s o.sized })

-- sizes that cannot be wrong are right
sized_where : (s : Store) → ((Sized s → ⊥) → ⊥) → Sized s
sized_where s h = record {
  tables_from = by_cases (dec_le 1 (length s.tmarks)) (λ y. y) (λ n. absurd (h (λ z. n z.tables_from)));
  tables_to = by_cases (dec_le (length s.tmarks) 512) (λ y. y) (λ n. absurd (h (λ z. n z.tables_to)));
  frames_from = by_cases (dec_le 1 (length s.fmarks)) (λ y. y) (λ n. absurd (h (λ z. n z.frames_from)));
  frames_to = by_cases (dec_le (length s.fmarks) 4096) (λ y. y) (λ n. absurd (h (λ z. n z.frames_to)));
  words = stable (length s.words) (512 * length s.tmarks) (λ n. h (λ z. n z.words));
  bytes = stable (length s.bytes) (4096 * length s.fmarks) (λ n. h (λ z. n z.bytes));
}

-- set-up leaves a sound store wherever it is answered
pub set_up_sound : (s : Store) (v : ℕ) (s' : Store) → SetUp s (Ok v) s' → Sound s'
set_up_sound s v s' u = subst Sound (sym u.1.1) (fresh_sound s (sized_where s (λ h. u.0 1 (set_up.sizes h))))

pub create_left : (s : Store) (v : ℕ) (s' : Store) → create.Create s (Ok v) s' → Left s s'
create_left s v s' u = left_of s s' some kept
  where
    some : (Sound s → ⊥) → ⊥
    some h = u.0 1 (create.sizes (λ z. u.0 2 (create.unformed (λ w. h (record { sized = z; formed = w })))))

    kept : Sound s → KeptSound s s'
    kept o =
        let f : 0 < free_tables s = by_cases (dec_lt 0 (free_tables s)) (λ l. l) (λ l. absurd (u.0 17 (create.no_table (omega arith)))) in
        let c = create_creates s s' v o.sized o.formed f u in
        record {
          sound = record { sized = c.sized; formed = c.well_formed };
          tables = ap (λ (t : Store). length t.tmarks) u.1.1 ∙ length-set s.tmarks (lowest s.tmarks) 1;
          frames = ap (λ (t : Store). length t.fmarks) u.1.1;
        }
