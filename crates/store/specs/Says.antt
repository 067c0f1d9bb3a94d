-- What a test promises: it says yes exactly for P.
use Rattle.std.specs.Prelude.{Bool, true, false}

abbrev pub Says : Bool → Type 0 → Type 0
Says true P = P
Says false P = P → ⊥
