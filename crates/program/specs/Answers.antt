-- What the program prints for a command, and the store afterwards.
use Rattle.std.specs.Prelude.{◌≡◌, List, ◌++◌, ℕ, ◌+◌, ◌*◌, ◌≤◌, length, Option, Some, None, Result}
use Rattle.refusal.specs.declared.Refusal.{Refusal}
use Rattle.store.specs.Store.{Store}
use Rattle.translate.specs.Translate.{Translate}
use Rattle.map.specs.Create.{Create}
use Rattle.map.specs.Map as call
use Rattle.command.specs.declared.command.Command.{Command}
use Rattle.command.specs.declared.command.Command.TheVariants.{New, Map, Find, Dump}
use Rattle.command.specs.Command.{command_of}
use Rattle.text.specs.declared.text.Text.{Text}
use Rattle.text.specs.Text.{said, no_line, Wrote}
use Rattle.dump.specs.Dump as tree

-- the line of the call's answer, and before it what a dump lists; 99 for any other line
abbrev pub Ran : Store → Option Command → List ℕ → Store → Type 0
Ran s (Some New) text s' = (a : Result ℕ Refusal) × Create s a s' × (text ≡ said a)
Ran s (Some (Map root va pa size perm)) text s' = (a : Result ℕ Refusal) × call.Map s root va pa size perm a s' × (text ≡ said a)
Ran s (Some (Find root va)) text s' = (a : Result ℕ Refusal) × Translate s root va a × (text ≡ said a) × (s' ≡ s)
Ran s (Some (Dump root)) text s' = (a : Result ℕ Refusal) × tree.Dump s root a × (text ≡ tree.listed s root a ++ said a) × (s' ≡ s)
Ran s None text s' = (text ≡ no_line 99) × (s' ≡ s)

-- what is printed for a line
abbrev pub Printed : Store → List ℕ → List ℕ → Store → Type 0
Printed s line text s' = Ran s (command_of line) text s'

-- a command's text has gone into t' behind that of t, as far as there is room for it
pub record Answered (s : Store) (c : Option Command) (t t' : Text) (s' : Store) : Type 0 where
  pub text : List ℕ
  pub ran : Ran s c text s'
  pub wrote : Wrote t text t'
  pub short : length text ≤ 13824 * length s.tmarks + 24
