-- The candidate that is chosen first, and ranges that are there.

use Rattle.std.specs.Prelude.{◌<◌, ℕ, List, Option, Some, None, All, length, slice_get}
use Rattle.version_solving.specs.declared.demand.Demand.{Demand}
use Rattle.version_solving.specs.declared.documents.Candidate.{Candidate}
use Rattle.version_solving.specs.declared.documents.Documents.{Documents}
use Rattle.version_solving.specs.declared.documents.Package.{Package}
use Rattle.version_solving.specs.declared.change.Change.{Change}
use Rattle.version_solving.specs.declared.change.Change.TheVariants.{First, Nothing, Undecided}
use Rattle.version_solving.specs.declared.outcome.Choice.{Choice}
use Rattle.version_solving.specs.declared.outcome.Outcome.{Outcome}
use Rattle.version_solving.specs.declared.outcome.Outcome.TheVariants as Outcomes

abbrev pub change_at : Option Choice → Change
change_at None = Nothing
change_at (Some choice) = First choice.candidate

abbrev pub change_in : Outcome → Change
change_in (Outcomes.Selected choices) = change_at (slice_get choices.items 0)
change_in Outcomes.NoSelection = Nothing
change_in Outcomes.Undecided = Undecided

-- ---- ranges that are there

-- The demands have ranges below a number.
abbrev pub AreBelow : (number : ℕ) → List Demand → Type 0
AreBelow number = All (λ (d : Demand). d.range < number)

abbrev pub AreAllBelow : (number : ℕ) → List Candidate → Type 0
AreAllBelow number = All (λ (candidate : Candidate). AreBelow number candidate.demands.items)

-- Each demand of these, and of a candidate, has a range that is there.
pub record HaveRanges (demands : List Demand) (documents : Documents) : Type 0 where
  pub of_root : AreBelow (length documents.ranges.items) demands
  pub of_candidates : All (λ (one : Package). AreAllBelow (length documents.ranges.items) one.candidates.items) documents.packages.items
