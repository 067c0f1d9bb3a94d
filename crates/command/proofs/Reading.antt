-- A line read piece by piece: the first is the name, and the others are the numbers. Assumes nothing.
use mathlib.Core.Path.{◌≡◌, refl, sym, ◌∙◌, ap}
use mathlib.Core.Bool.{Bool, true, false, cond}
use mathlib.Core.List.{List, [], ◌∷◌, map, map-map}
use Prim.Native.Nat.{ℕ, zero, suc, ◌<◌, ◌≤◌}
use native.Mathlib.Omega.{arith}
use lib.Dec.{eqb}
use lib.ListN.{length, length-map, get_or}
use denote.Ref.{Bor}
use denote.Param.Members.{Mut}
use borrow.Author.Tests.{le-ltb}
use Rattle.std.specs.Prelude.{Option, Some, None}
use Rattle.std.specs.Fn.{CalledAt}
use Rattle.std.specs.Iterator.{Yields}
use Rattle.std.specs.declared.slice.Split.{Split}
use Rattle.std.specs.Slice.Iter.{split_steps, split_rest, split_done, split_callee}
use Rattle.std.proofs.lemmas.Iterator.{YieldsList}
use Rattle.std.proofs.lemmas.Iterator.Consumers.{YieldsList-turn, YieldsList-end}
use Rattle.std.proofs.lemmas.Iterator.Splits.{YieldsList-from_slice_split}
use Rattle.command.specs.declared.command.Command.TheVariants.{Map}
use Rattle.command.specs.Command.{parsed_of, pieces_of, all_numbers, values, told, map_name, command, command_of}

-- an item that comes is the list's first, and the others are to come
first_item : {S A B : Type 0} {steps : S → Option A → S → Type 0} {v : A → B} (all : List B) {s t : S} {r : Option A} (x : A) → YieldsList steps v s all → r ≡ Some x → steps s r t
    → (rest : List B) × (all ≡ v x ∷ rest) × YieldsList steps v t rest
first_item [] {t = t} x y e m = absurd (y.runs x t (rw e at m))
first_item (b ∷ bs) {t = t} x y e m = let q = y.runs.1 x t (rw e at m) in (bs, ap (λ z. z ∷ bs) (sym q.0), record { runs = q.1 })

-- a piece that is no number
not_all : (ps : List (List ℕ)) (k : ℕ) (p : List ℕ) → (k < length ps) × (p ≡ get_or ps k p) → parsed_of p ≡ None → all_numbers (map parsed_of ps) ≡ false
unfolding all_numbers
not_all [] k p l n = absurd (omega (arith, l.0))
not_all (q ∷ ps) zero p l n = rw (← l.1, n) refl
not_all (q ∷ ps) (suc k) p l n = at (parsed_of q) (not_all ps k p (omega (arith, l.0), l.1) n)
  where
    at : (o : Option ℕ) → all_numbers (map parsed_of ps) ≡ false → all_numbers (o ∷ map parsed_of ps) ≡ false
    at (Some v) h = h
    at None h = refl

-- numbers are all numbers, and these are they
all_some : (ns : List ℕ) → (all_numbers (map (λ v. Some v) ns) ≡ true) × (values (map (λ v. Some v) ns) ≡ ns)
unfolding all_numbers values
all_some [] = (refl, refl)
all_some (n ∷ ns) = let q = all_some ns in (q.0, ap (λ l. n ∷ l) q.1)

length-values : (ps : List (Option ℕ)) → all_numbers ps ≡ true → length (values ps) ≡ length ps
unfolding all_numbers values
length-values [] e = refl
length-values (Some v ∷ ps) e = ap suc (length-values ps e)
length-values (None ∷ ps) e = cc

-- the numbers of a map
pub told_map : (name ns : List ℕ) → name ≡ map_name → length ns ≡ 5 → Some (Map (get_or ns 0 0) (get_or ns 1 0) (get_or ns 2 0) (get_or ns 3 0) (get_or ns 4 0)) ≡ told name ns
told_map name [] e l = absurd (omega arith)
told_map name (a ∷ []) e l = absurd (omega arith)
told_map name (a ∷ b ∷ []) e l = absurd (omega arith)
told_map name (a ∷ b ∷ c ∷ []) e l = absurd (omega arith)
told_map name (a ∷ b ∷ c ∷ d ∷ []) e l = absurd (omega arith)
told_map name (root ∷ va ∷ pa ∷ size ∷ perm ∷ []) e l = rw e refl
told_map name (a ∷ b ∷ c ∷ d ∷ e ∷ f ∷ ns) g l = absurd (omega arith)

-- no command has more than five numbers
told_many : (name ns : List ℕ) → 5 < length ns → told name ns ≡ None
told_many name [] l = absurd (omega arith)
told_many name (a ∷ []) l = absurd (omega arith)
told_many name (a ∷ b ∷ []) l = absurd (omega arith)
told_many name (a ∷ b ∷ c ∷ []) l = absurd (omega arith)
told_many name (a ∷ b ∷ c ∷ d ∷ []) l = absurd (omega arith)
told_many name (a ∷ b ∷ c ∷ d ∷ e ∷ []) l = absurd (omega arith)
told_many name (a ∷ b ∷ c ∷ d ∷ e ∷ f ∷ ns) l = refl

many : (name : List ℕ) (ps : List (Option ℕ)) → 5 < length ps → command name ps ≡ None
many name ps l = at (all_numbers ps) refl
  where
    at : (t : Bool) → all_numbers ps ≡ t → cond t (told name (values ps)) None ≡ None
    at true e = told_many name (values ps) (omega (arith, length-values ps e))
    at false e = refl

-- the first piece of a line, and what is to come behind it
pub record Named {F : Type 0} (g : Mut F (Bor ℕ × Unit {0}) Bool) (line name : List ℕ) (after : Split ℕ F) : Type 0 where
  pub rest : List (List ℕ)
  pub pieces : pieces_of line ≡ name ∷ rest
  pub yields : YieldsList (split_steps g) (λ x. x.now) after rest

pub named : {F : Type 0} {g : Mut F (Bor ℕ × Unit {0}) Bool} (line : List ℕ) (s : Split ℕ F) {t : Split ℕ F} {r : Option (Bor (List ℕ))} {x : Bor (List ℕ)} {f : F}
    → split_steps g s r t → r ≡ Some x → split_rest s ≡ line → split_done s ≡ false → split_callee s ≡ f → ((b : ℕ) (h : Bool) (q : F) → CalledAt g f b h q → (q ≡ f) × (h ≡ eqb b 32)) → Named g line x.now t
named {g = g} line s m e rest done callee tests =
    let q = first_item (pieces_of line) _ (YieldsList-from_slice_split g (λ b. eqb b 32) line rest done callee tests) e m in
    record { rest = q.0; pieces = q.1; yields = q.2 }

-- a turn of the loop over the pieces behind the name, which has come to u: the pieces xs before it are the numbers ns
module _ {F : Type 0} {g : Mut F (Bor ℕ × Unit {0}) Bool} {line name : List ℕ} {t : Split ℕ F} (n : Named g line name t) (l : length line ≤ 128)
    (xs : List (Bor (List ℕ))) (u : Split ℕ F) (y : Yields (split_steps g) t xs u) (ns : List ℕ) (same : map (λ x. parsed_of x.now) xs ≡ map (λ k. Some k) ns)
    (r : Option (Bor (List ℕ))) (v : Split ℕ F) (m : split_steps g u r v) where
  spoken : command_of line ≡ command name (map parsed_of n.rest)
  spoken = rw (le-ltb 128 (length line) l, n.pieces) refl

  pub other_piece : (x : Bor (List ℕ)) → r ≡ Some x → None ≡ parsed_of x.now → None ≡ command_of line
  other_piece x e h = sym (spoken ∙ rw (not_all n.rest _ _ (YieldsList-turn n.yields xs u y r v x e m) (sym h)) refl)

  pub more_than_five : (x : Bor (List ℕ)) → r ≡ Some x → length ns ≡ 5 → None ≡ command_of line
  more_than_five x e h =
      let q = YieldsList-turn n.yields xs u y r v x e m in
      let k : length xs ≡ length ns = omega (arith, simp length-map at (ap length same)) in
      sym (spoken ∙ many name (map parsed_of n.rest) (simp length-map (omega (arith, q.0, k))))

  pub all_pieces : r ≡ None → told name ns ≡ command_of line
  all_pieces e =
      let q = YieldsList-end n.yields xs u y r v e m in
      let h : map parsed_of n.rest ≡ map (λ k. Some k) ns = rw (← q.0) (map-map parsed_of (λ x. x.now) xs ∙ same) in
      sym (spoken ∙ rw (h, (all_some ns).0, (all_some ns).1) refl)
