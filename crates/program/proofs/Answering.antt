-- What is printed for a command is one text, and leaves one store; lines that are kept short. Assumes nothing.
use mathlib.Core.Path.{◌≡◌, refl, sym, ◌∙◌, ap}
use mathlib.Core.List.{List, [], ◌∷◌, ◌++◌}
use mathlib.Core.Logic.{by_cases}
use Prim.Native.Nat.{ℕ, ◌<◌}
use native.Mathlib.Decide.{dec_le}
use native.Mathlib.Omega.{arith}
use lib.ListN.{length, take, length-take}
use lib.Seq.{take_all}
use borrow.Author.Tests.{lt-ltb}
use Rattle.std.specs.Prelude.{Option, Some, None, Result}
use Rattle.store.specs.Store.{Store}
use Rattle.refusal.specs.declared.Refusal.{Refusal}
use Rattle.store.proofs.Outcomes.{one_outcome}
use Rattle.well_formed.specs.Root.{RootReason}
use Rattle.translate.proofs.TranslateLaws.{one_translate}
use Rattle.map.proofs.CreateLaws.{one_create}
use Rattle.map.proofs.MapLaws.{one_map}
use Rattle.command.specs.declared.command.Command.{Command}
use Rattle.command.specs.declared.command.Command.TheVariants.{New, Map, Find, Dump}
use Rattle.command.specs.Command.{command_of}
use Rattle.text.specs.declared.text.Text.{Text}
use Rattle.text.specs.Text.{said}
use Rattle.dump.specs.Dump as tree
use Rattle.program.specs.Answers.{Ran, Answered}
use Rattle.program.specs.Lines.{Step, Fed}

pub from_dump : {s : Store} {root : ℕ} {t t' : Text} → tree.Dumped s root t t' → Answered s (Some (Dump root)) t t' s
from_dump {s} {root} d = record {
  text = tree.listed s root d.answer ++ said d.answer;
  ran = (d.answer, d.holds, refl, refl);
  wrote = d.wrote;
  short = d.short;
}

-- two texts for one command are equal, and so are the stores that it leaves
pub one_dump : (s : Store) (root : ℕ) (a a' : Result ℕ Refusal) → tree.Dump s root a → tree.Dump s root a' → a ≡ a'
one_dump s root a a' p q = (one_outcome (RootReason s root) (tree.DumpDone s root) (λ v v' t t' x y. (x.0 ∙ sym y.0, x.1 ∙ sym y.1)) s a a' s s p q).0

pub one_text : (s : Store) (c : Option Command) (t u : List ℕ) (s' s'' : Store) → Ran s c t s' → Ran s c u s'' → (t ≡ u) × (s' ≡ s'')
one_text s (Some New) t u s' s'' (a, p, e) (b, q, f) = let o = one_create s a b s' s'' p q in (e ∙ ap said o.0 ∙ sym f, o.1)
one_text s (Some (Map root va pa size perm)) t u s' s'' (a, p, e) (b, q, f) = let o = one_map s root va pa size perm a b s' s'' p q in (e ∙ ap said o.0 ∙ sym f, o.1)
one_text s (Some (Find root va)) t u s' s'' (a, p, e, x) (b, q, f, y) = (e ∙ ap said (one_translate s root va a b p q) ∙ sym f, x ∙ sym y)
one_text s (Some (Dump root)) t u s' s'' (a, p, e, x) (b, q, f, y) =
    (e ∙ ap (λ (z : Result ℕ Refusal). tree.listed s root z ++ said z) (one_dump s root a b p q) ∙ sym f, x ∙ sym y)
one_text s None t u s' s'' (e, x) (f, y) = (e ∙ sym f, x ∙ sym y)

-- of a long line 129 bytes are enough to see that it is none of the commands
pub kept_enough : (line : List ℕ) → command_of (take 129 line) ≡ command_of line
kept_enough line = by_cases (dec_le (length line) 129) (λ h. ap command_of (take_all 129 line h))
    (λ n.
    let h : 128 < length (take 129 line) = simp length-take (omega arith) in
    let g : 128 < length line = omega arith in
    rw (lt-ltb 128 (length (take 129 line)) h, lt-ltb 128 (length line) g))

-- one byte more
pub fed_more : (room : ℕ) (s : Store) (l bs : List ℕ) (t : Store) (m : List ℕ) (b : ℕ) (u : Store) (n : List ℕ) → Fed room s l bs t m → Step room t m b u n → Fed room s l (bs ++ (b ∷ [])) u n
fed_more room s l [] t m b u n (e, f) g = (u, n, rw (← e, ← f) g, (refl, refl))
fed_more room s l (x ∷ bs) t m b u n (t₁, l₁, h, k) g = (t₁, l₁, h, fed_more room t₁ l₁ bs t m b u n k g)
