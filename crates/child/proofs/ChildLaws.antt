-- What each way out of `uvm_copy` says, that two answers to one call are the same, and what a success means. Assumes nothing.
use mathlib.Core.Path.{◌≡◌, refl, sym, ap, ◌∙◌, subst}
use mathlib.Core.Logic.{by_cases}
use mathlib.Core.List.{List}
use Prim.Native.Nat.{ℕ, ◌+◌, ◌*◌, ◌/◌, ◌%◌, ◌^◌, ◌<◌}
use native.Mathlib.Decide.{ℕ_discrete, dec_lt}
use native.Mathlib.Nat.{zero-add}
use native.Mathlib.Omega.{arith}
use lib.Bits.{bit_and}
use Rattle.std.specs.Prelude.{Result, Ok}
use Rattle.refusal.specs.declared.Refusal.{Refusal}
use Rattle.page_table_entry.specs.Layout.{bit_v}
use Rattle.address.specs.Field.{bit}
use Rattle.store.specs.Store.{Store, frame_no, pool_no}
use Rattle.store.specs.Walk.{resolve}
use Rattle.store.specs.Outcome.{NoReason}
use Rattle.store.proofs.Outcomes.{one_outcome}
use Rattle.store.proofs.Tree.{tree_of}
use Rattle.well_formed.specs.Root.{RootReady}
use Rattle.walk.specs.Missing.{entry_in}
use Rattle.unmap.proofs.PoolLaws.{pool_counted, counted_pool}
use Rattle.fresh.specs.Fresh.{fresh_pages}
use Rattle.fresh.specs.Grown.{FreshAt, Grown}
use Rattle.fresh.proofs.GrownLaws.{pages_grown, ready_where}
use Rattle.copies.specs.Bytes.{byte_at}
use Rattle.copies.specs.InOut.{Out}
use Rattle.child.specs.Child.{page_flags, page_bytes, ChildReason, same, too_large, unaligned, unmapped, foreign, fresh, ChildReady, ChildDone, Child}
use Rattle.child.specs.Copied.{OwnFrame, Copied}
use Rattle.copies.proofs.BytesLaws.{bytes_get}
use Rattle.copies.proofs.MovedLaws.{out_moved}
use Rattle.child.proofs.PageBytes.{page_byte}
use Rattle.copies.proofs.OneOwner.{one_page}
use Rattle.child.proofs.ChildReasons.{clear}
use Rattle.child.proofs.ChildLoop.{child_may, fillable, in_use}

module _ (s : Store) (parent child size : ℕ) where
  abbrev after : Store
  after = fresh_pages s child 0 (size / 4096) (page_flags s parent) (page_bytes s parent)

  pub done : ChildReady s parent child size → (s' : Store) → s' ≡ after → Child s parent child size (Ok 0) s'
  done f s' e = (clear s parent child size f, (refl, e))

  -- two answers to one call are the same, and so are the stores
  pub one_child : (a a' : Result ℕ Refusal) (t t' : Store) → Child s parent child size a t → Child s parent child size a' t' → (a ≡ a') × (t ≡ t')
  one_child = one_outcome (ChildReason s parent child size) (ChildDone s parent child size) (λ v v' t t' x y. (x.0 ∙ sym y.0, x.1 ∙ sym y.1)) s

  -- ---- what a success means, where both are roots of a well-formed store

  module _ (rp : RootReady s parent) (rc : RootReady s child) where
    none_ready : NoReason (ChildReason s parent child size) → ChildReady s parent child size
    none_ready none =
        let small : size < 2 ^ 38 + 1 = by_cases (dec_lt (2 ^ 38) size) (λ l. absurd (none 6 (too_large l))) (λ l. omega arith) in
        record {
          at_parent = rp;
          at_child = rc;
          apart = λ e. none 4 (same e);
          small = omega arith;
          aligned = by_cases (ℕ_discrete (size % 4096) 0) (λ e. e) (λ n. absurd (none 7 (unaligned n)));
          mapped = λ p l. by_cases (ℕ_discrete (bit bit_v (resolve s parent p)) 1) (λ e. e) (λ n. absurd (none 11 (unmapped p l n)));
          pool = λ p l.
              by_cases (ℕ_discrete (bit_and (entry_in s.words parent 2 p) 0xFFFF_FFFF_F800_0000) 0x4000_0000)
              (counted_pool s rp.sized parent p rp.formed rp.is_root (omega arith))
              (λ n. absurd (none 15 (foreign p l (λ x. n (pool_counted s rp.sized parent p x)))));
          fresh = ready_where s child 0 (size / 4096) (λ k x. none k (fresh x));
        }

    module _ (v : ℕ) (s' : Store) (u : Child s parent child size (Ok v) s') where
      ready : ChildReady s parent child size
      ready = none_ready u.0

      -- own fresh frames with the parent's flags and bytes, and everything else as before
      pub child_grown : Grown s child 0 (size / 4096) (page_flags s parent) (page_bytes s parent) s'
      child_grown =
          subst (Grown s child 0 (size / 4096) (page_flags s parent) (page_bytes s parent)) (sym u.1.1)
          (pages_grown (page_flags s parent) (page_bytes s parent) (size / 4096) s child 0 (λ x l h. fillable s parent child size ready x (omega arith)) (child_may s parent child size ready))

      module _ (p : ℕ) (l : p < size / 4096) where
        below : p < 2 ^ 26
        below = omega (arith, ready.small)

        got : FreshAt s child p (page_flags s parent p) (page_bytes s parent p) s'
        got = subst (λ (x : ℕ). FreshAt s child x (page_flags s parent x) (page_bytes s parent x) s') (zero-add p) (child_grown.fresh p l)

        number : frame_no (resolve s' child p) ≡ pool_no got.frame
        number = omega (arith, got.entry)

        own : OwnFrame s' child p
        own =
            let g = child_grown in
            record {
              pool = record { frame = got.frame; there = omega (arith, got.there, g.pool); number = number };
              alone = λ r' p' rr' h e.
                  one_page s' g.sized (tree_of s' g.sized g.well_formed) r' p' child p got.frame rr' ((g.roots child).0 rc.is_root) h below
                  (omega (arith, got.there, g.pool)) (e ∙ number) number;
            }

        copied : (k : ℕ) → k < 4096 → byte_at s' child (4096 * p + k) ≡ byte_at s parent (4096 * p + k)
        copied k h = page_byte s' child p got.frame number k h ∙ got.bytes k h ∙ bytes_get s parent (4096 * p) 4096 k h

        parent_page : resolve s' parent p ≡ resolve s parent p
        parent_page = child_grown.others parent p rp.is_root below (λ e _ _. ready.apart (sym e))

        parent_kept : (k : ℕ) → k < 4096 → byte_at s' parent (4096 * p + k) ≡ byte_at s parent (4096 * p + k)
        parent_kept k h =
            let f = ready.pool p l in
            page_byte s' parent p f.frame (ap frame_no parent_page ∙ f.number) k h ∙ (child_grown.taken f.frame (in_use s parent child size ready p l)).bytes k h
            ∙ sym (page_byte s parent p f.frame f.number k h)

      -- what holds at each page and byte of a page holds at each address
      at_address : (r r' va : ℕ) → va < size → ((p : ℕ) → p < size / 4096 → (k : ℕ) → k < 4096 → byte_at s' r (4096 * p + k) ≡ byte_at s r' (4096 * p + k))
          → byte_at s' r va ≡ byte_at s r' va
      at_address r r' va h all =
          let e : 4096 * (va / 4096) + va % 4096 ≡ va = omega arith in
          subst (λ (x : ℕ). byte_at s' r x ≡ byte_at s r' x) e (all (va / 4096) (omega (arith, ready.aligned)) (va % 4096) (omega arith))

      pub child_copied : Copied s parent child size s'
      child_copied = record {
        own = own;
        flags = λ p l. omega (arith, (got p l).entry);
        bytes = λ va h. at_address child parent va h copied;
        parent_bytes = λ va h. at_address parent parent va h parent_kept;
        parent_pages = λ p h. child_grown.others parent p rp.is_root h (λ e _ _. ready.apart (sym e));
      }

      -- a write through the child never reaches the parent
      pub child_apart : (va : ℕ) (src : List ℕ) (w : ℕ) (s'' : Store) → Out s' child va src (Ok w) s'' → (a : ℕ) → a < size → byte_at s'' parent a ≡ byte_at s parent a
      child_apart va src w s'' o a h =
          let g = child_grown in
          let l : a / 4096 < size / 4096 = omega (arith, ready.aligned) in
          let f = ready.pool (a / 4096) l in
          let e : resolve s' parent (a / 4096) ≡ resolve s parent (a / 4096) = parent_page (a / 4096) l in
          (out_moved s' child va (record { sized = g.sized; formed = g.well_formed; is_root = (g.roots child).0 rc.is_root }) src w s'' o).others parent a
          ((g.roots parent).0 rp.is_root) (omega (arith, ready.small)) (record { frame = f.frame; there = omega (arith, f.there, g.pool); number = ap frame_no e ∙ f.number })
          (λ q _ _. ready.apart (sym q))
          ∙ child_copied.parent_bytes a h
