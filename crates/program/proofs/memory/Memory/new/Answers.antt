-- `Memory::new` meets its contract: zeros, whether set-up writes them or refuses. Assumes nothing.
use Rattle.std.proofs.Common.{◌≡◌, ℕ, replicate}
use Rattle.std.specs.Prelude.{Result, Ok, Err}
use Rattle.std.proofs.lemmas.List.{length-replicate}
use Rattle.refusal.specs.declared.Refusal.{Refusal}
use Rattle.store.specs.Store.{Store, store_of}
use Rattle.store.specs.SetUp.{fresh, SetUp}
use Rattle.program.proofs.memory.Memory.new.Goals as goal

-- a memory that nothing has been written to
abbrev zeros : ℕ → ℕ → ℕ → ℕ → Store
zeros w t b f = store_of (replicate w 0) (replicate t 0) (replicate b 0) (replicate f 0)

-- zeros are left, whatever set-up answers
still_zeros : (w t b f : ℕ) (a : Result ℕ Refusal) (s : Store) → SetUp (zeros w t b f) a s → s ≡ fresh s
still_zeros w t b f (Ok v) s p = rw (p.1.1) (simp length-replicate)
still_zeros w t b f (Err r) s p = rw (p.1) (simp length-replicate)

pub returns : goal.returns
returns c = still_zeros 4096 8 32768 8 c.set_up.result _ c.set_up.ensures
