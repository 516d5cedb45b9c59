-- Choices, the table of them and their demands.

use Rattle.std.specs.Prelude.{◌≡◌, ◌<◌, ◌≤◌, ℕ, true, List, ◌∷◌, length, reverse, take, Option, Some, None, slice_index_or, All, IfSome}
use Rattle.version_solving.specs.declared.certificate.Values.{Values}
use Rattle.version_solving.specs.declared.demand.Demand.{Demand}
use Rattle.version_solving.specs.declared.outcome.Choice.{Choice}
use Rattle.version_solving.specs.declared.replay.Path.{Path}
use Rattle.version_solving.specs.Private.Values.{Spares}
use Rattle.version_solving.specs.Solving.{AreFirst, Fits, Holds, Keeps, NoneFits, Problem, Selection, demands_so_far, first_open, next_name, selection_of}

-- What a table selects.
abbrev pub in_table : List (Option ℕ) → Selection
in_table table name = slice_index_or table name None

-- A selected name has an allowed candidate.
abbrev pub Allows : Problem → Selection → Demand → Type 0
Allows p s d = IfSome (s d.name) (λ candidate. p.allows d.range candidate ≡ true)

-- The choices of a path, the last one first.
abbrev pub made : Path → List Choice
made path = reverse path.choices.items

-- The choices are of candidates that are there.
abbrev pub AreThere : Problem → List Choice → Type 0
AreThere p choices = (name candidate : ℕ) → selection_of choices name ≡ Some candidate → candidate < p.count name

-- The table and the demands are those of the choices, which are the first ones, and the demands before a place are not open.
pub record IsPath (p : Problem) (path : Path) : Type 0 where
  pub table : (name : ℕ) → in_table path.table.items name ≡ selection_of (made path) name
  pub demands : path.demands.items ≡ demands_so_far p (made path)
  pub within : path.from ≤ length path.demands.items
  pub passed : first_open (in_table path.table.items) (take path.from path.demands.items) ≡ None
  pub first : AreFirst p (made path)
  pub there : AreThere p (made path)

-- The choice is of the next name and is there, and no better one fits.
pub record IsNext (p : Problem) (earlier : List Choice) (choice : Choice) : Type 0 where
  pub name : next_name p earlier ≡ Some choice.name
  pub there : choice.candidate < p.count choice.name
  pub first : (better : ℕ) → better < choice.candidate → NoneFits p (record { name = choice.name; candidate = better } ∷ earlier)

-- Nothing is ruled out that a selection which fits and keeps the choices selects.
abbrev pub AreRuled : Problem → List Choice → List Values → Type 0
AreRuled p choices rows = (s : Selection) → Fits p s → Keeps s choices → Spares rows s

-- The candidate of the name is there, and its demands hold.
pub record IsAllowed (p : Problem) (s : Selection) (name candidate : ℕ) : Type 0 where
  pub there : candidate < p.count name
  pub demands : All (Holds p s) (p.demands name candidate)
