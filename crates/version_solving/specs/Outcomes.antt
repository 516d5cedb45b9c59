-- What an outcome says.

use Rattle.std.specs.Prelude.{List, reverse, ⊤}
use Rattle.version_solving.specs.declared.outcome.Choice.{Choice}
use Rattle.version_solving.specs.declared.outcome.Outcome.{Outcome}
use Rattle.version_solving.specs.declared.outcome.Outcome.TheVariants.{Selected, NoSelection, Undecided}

-- A fact of the choices, the last one first.
abbrev pub IfSelected : Outcome → (List Choice → Type 0) → Type 0
IfSelected (Selected choices) P = P (reverse choices.items)
IfSelected NoSelection P = ⊤
IfSelected Undecided P = ⊤

abbrev pub IfNoSelection : Outcome → Type 0 → Type 0
IfNoSelection (Selected choices) P = ⊤
IfNoSelection NoSelection P = P
IfNoSelection Undecided P = ⊤
