-- The invariants of the loops: n marks are free before those that are left, and what is left begins at a multiple of 64.
use Rattle.std.proofs.Common.{◌≡◌, ◌+◌, ◌*◌, ◌≤◌, length, drop}
use Rattle.std.specs.Slice.Iter.{chunks_exact_rest, chunks_exact_size}
use Rattle.store.specs.Count.{free}
use Rattle.store.proofs.count.enough_free.Given as goal

abbrev pub invariant-loop-part : goal.invariant-loop-part
invariant-loop-part l = record {
  counted : l.n + free (chunks_exact_rest l.part-iterator) ≡ free l.marks;
  size : chunks_exact_size l.part-iterator ≡ 64;
  left : chunks_exact_rest l.part-iterator ≡ drop (64 * length l.yielded) l.marks;
  within : 64 * length l.yielded ≤ length l.marks;
}
