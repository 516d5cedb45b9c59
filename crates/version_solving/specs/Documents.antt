-- The problem that documents and the demands of a root pose.

use Rattle.std.specs.Prelude.{ℕ, Bool, false, List, [], length, Option, Some, None, slice_get, unwrap_or}
use Rattle.version_solving.specs.declared.demand.Demand.{Demand}
use Rattle.version_solving.specs.declared.documents.Candidate.{Candidate}
use Rattle.version_solving.specs.declared.documents.Package.{Package}
use Rattle.version_solving.specs.declared.documents.Range.{Range}
use Rattle.version_solving.specs.declared.documents.Documents.{Documents}
use Rattle.version_solving.specs.Solving.{Problem}

-- The candidates of a name. A name without a document has none.
abbrev pub candidates_in : Option Package → List Candidate
candidates_in None = []
candidates_in (Some found) = found.candidates.items

abbrev pub demands_in : Option Candidate → List Demand
demands_in None = []
demands_in (Some candidate) = candidate.demands.items

-- Whether a range allows a candidate. What it says nothing of is not allowed.
abbrev pub allowed_in : Option Range → ℕ → Bool
allowed_in None candidate = false
allowed_in (Some range) candidate = unwrap_or (slice_get range.allowed.items candidate) false

abbrev pub problem_of : List Demand → Documents → Problem
problem_of root documents = record {
  root = root;
  count = λ name. length (candidates_in (slice_get documents.packages.items name));
  demands = λ name candidate. demands_in (slice_get (candidates_in (slice_get documents.packages.items name)) candidate);
  allows = λ range candidate. allowed_in (slice_get documents.ranges.items range) candidate;
}
