-- What each way out of `map` says, and that two answers to one call are the same. Assumes nothing.
use mathlib.Core.Path.{◌≡◌, sym, ap, ap₂, ◌∙◌, subst}
use Prim.Native.Nat.{ℕ, ◌-◌, ◌*◌, ◌/◌, ◌^◌, ◌≤◌, ◌<◌}
use native.Mathlib.Omega.{arith}
use Rattle.std.specs.Prelude.{Result, Ok}
use Rattle.refusal.specs.declared.Refusal.{Refusal}
use Rattle.address.specs.Answer.{Said, answered, refused}
use Rattle.address.proofs.Answers.{value, clash}
use Rattle.page_table_entry.specs.Built.{entry_of, Written}
use Rattle.page_table_entry.proofs.Built.{entry}
use Rattle.rounding.specs.Range.{first_page, end_page}
use Rattle.store.specs.Store.{Store}
use Rattle.store.proofs.Outcomes.{one_outcome}
use Rattle.walk.specs.Missing.{missing_in, missing}
use Rattle.walk.proofs.MissingLaws.{missing_in_lem, missing_none}
use Rattle.map.specs.Numbers.{pages_of}
use Rattle.map.specs.Reasons.{MapReason, MapReady}
use Rattle.enter.specs.Enter.{enter_pages, CanEnter}
use Rattle.map.specs.Map.{MapDone, Map}
use Rattle.map.proofs.Entered.{ready, entry_rounded}
use Rattle.map.proofs.ReadyLaws.{fit, room}
use Rattle.map.proofs.ReasonLaws.{clear}

module _ (s : Store) (root va pa size perm : ℕ) where
  abbrev n : ℕ
  n = pages_of va size

  -- two answers to one call are the same, and so are the stores
  pub one_map : (a a' : Result ℕ Refusal) (t t' : Store) → Map s root va pa size perm a t → Map s root va pa size perm a' t' → (a ≡ a') × (t ≡ t')
  one_map = one_outcome (MapReason s root va pa size perm) (MapDone s root va pa size perm) (λ v v' t t' x y. (x.0 ∙ sym y.0, x.1 ∙ sym y.1)) s

  module _ (f : MapReady s root va pa size perm) (first end : ℕ) (ef : first ≡ first_page va) (ee : end ≡ end_page va size) where
    -- no page is asked for
    pub done_none : end ≤ first → Map s root va pa size perm (Ok 0) s
    unfolding enter_pages
    done_none h =
        let z : n ≡ 0 = omega arith in (
          clear _ _ _ _ _ _ f,
          (
            sym (ap (missing s root (first_page va)) z ∙ missing_none s root (first_page va)),
            ap (λ (k : ℕ). enter_pages s root (first_page va) k (entry_of pa perm)) (sym z),
          ),
        )

    module _ (h : first < end) where
      -- the first frame lies below 2 ^ 56
      low : pa < 2 ^ 56
      low = omega (arith, f.numbers.frames 0 (omega arith))

      word : (a : Said) → Written pa perm a → a ≡ answered (entry_of pa perm)
      word a w = w.whole ∙ sym (entry pa perm f.numbers.perms low)

      -- the judge has looked at what an entry is refused with
      pub never : (a : Said) (k : ℕ) → Written pa perm a → a ≡ refused k → ⊥
      never a k w q = clash (sym q ∙ word a w)

      module _ (a : Said) (e : ℕ) (w : Written pa perm a) (q : a ≡ answered e) where
        is : e ≡ entry_of (4096 * (pa / 4096)) perm
        is = value (sym q ∙ word a w) ∙ entry_rounded pa perm

        pub can_enter : CanEnter s root first (end - first) e
        can_enter =
            let x = ready s root (first_page va) n (pa / 4096) perm (fit s root va pa size perm f) (room s root va pa size perm f) in
            let c : CanEnter s root (first_page va) n (entry_of (4096 * (pa / 4096)) perm) =
            record { at_root = f.at_root; pages = x.range; unmapped = x.unmapped; plain = x.plain; tables = f.enough } in
            let k : n ≡ end - first = omega arith in
            subst (CanEnter s root first (end - first)) (sym is)
            (subst (λ (p : ℕ). CanEnter s root p (end - first) (entry_of (4096 * (pa / 4096)) perm)) (sym ef)
            (subst (λ (m : ℕ). CanEnter s root (first_page va) m (entry_of (4096 * (pa / 4096)) perm)) k c))

        pub done : (v : ℕ) (s' : Store) → v ≡ missing_in s.words root first (end - first) → s' ≡ enter_pages s root first (end - first) e → Map s root va pa size perm (Ok v) s'
        done v s' ev es =
            let k : end - first ≡ n = omega arith in (
              clear _ _ _ _ _ _ f,
              (
                ev ∙ missing_in_lem s root first (end - first) ∙ ap₂ (missing s root) ef k,
                es ∙ ap₂ (λ (p m : ℕ). enter_pages s root p m e) ef k ∙ ap (enter_pages s root (first_page va) n) (value (sym q ∙ word a w)),
              ),
            )
