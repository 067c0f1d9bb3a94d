-- `store::count::enough_free` meets its contract. Assumes nothing.
use Rattle.std.proofs.Common.{◌≡◌, List, ℕ, ◌+◌, ◌*◌, ◌++◌, length, drop, refl, sym, ap, ◌∙◌, arith, drop-drop}
use Rattle.std.proofs.lemmas.List.{drop_at}
use Rattle.std.proofs.lemmas.Grind.{common_steps}
use Rattle.std.specs.Slice.Iter.{chunks_exact_rest}
use Rattle.store.specs.Count.{free}
use Rattle.store.proofs.Free.{free_append}
use Rattle.store.proofs.count.enough_free.Goals as goal

-- what is left behind one part more
left_behind : (ms front behind : List ℕ) (i j : ℕ) → front ++ behind ≡ drop i ms → i + length front ≡ j → behind ≡ drop j ms
left_behind ms front behind i j e f =
    sym (drop_at front behind (length front) refl) ∙ ap (drop (length front)) e ∙ drop-drop (length front) i ms ∙ ap (λ (k : ℕ). drop k ms) f

pub loop-part-preserved : goal.loop-part-preserved
loop-part-preserved c =
    let h = c.in-Some.ensures.steps in
    let l = c.loop-part in
    record {
      counted = omega (arith, c.count_free-n.ensures, ap free h.1.0, free_append c.in-Some.part.now (chunks_exact_rest c.next.new.self));
      size = cc;
      left = left_behind c.args.marks.now c.in-Some.part.now _ (64 * length l.yielded) _ (sym h.1.0 ∙ l.invariant.left) (grind (arith, common_steps));
      within = grind (arith, common_steps);
    }
