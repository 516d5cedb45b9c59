-- What is found out about dependencies, one after the other.
use Rattle.std.proofs.Common.{◌≡◌, ℕ, List, [], ◌++◌, Bool, false, append-nil, Err, Global, IfOk, Ok, Result, Some, String}
use Rattle.std.proofs.Common.{codes, drop, length, map, string_bytes}
use Rattle.std.proofs.lemmas.List.{drop_all}
use Rattle.std.specs.List.{AllZip}
use Rattle.std.specs.Prelude.{◌≤◌}
use Rattle.npm_packages.specs.Edges.{EdgeValue, edge_value}
use Rattle.npm_packages.specs.declared.edges.Edge.{Edge}
use Rattle.npm_pick.specs.declared.options.Options.{Options}
use Rattle.npm_texts.specs.RegistrySpec.{RegistrySpecValue, registry_spec}
use Rattle.serde_json.specs.Data.{Data}
use Rattle.serde_json.specs.View.{view}
use Rattle.serde_json.specs.declared.value.Value.{Value}
use Rattle.npm_pick_reports.specs.Loading.{Loads}
use Rattle.npm_pick_reports.specs.Outdated.{IsOutcome, IsOutcomeOf, IsPickedAs, OutcomeValue}
use Rattle.npm_pick_reports.specs.Outdated.{behind, is_current}
use Rattle.npm_pick_reports.specs.Outdated.{is_passed, known, outcome_value, outdated}
use Rattle.npm_pick_reports.specs.declared.outdated.Outcome.{Outcome}
use Rattle.npm_pick_reports.specs.declared.run_error.RunError.{RunError}

module _ (Is : EdgeValue → OutcomeValue → Type 0) (edges : List Edge) where
  -- the outcomes so far, and then those of the edges from a place on, are the outcomes of all edges
  abbrev pub AreSoFar : (i : ℕ) → List Outcome → Type 0
  AreSoFar i outcomes = (later : List OutcomeValue) → AllZip Is (map edge_value (drop i edges)) later
      → AllZip Is (map edge_value edges) (map outcome_value outcomes ++ later)

  pub outcomes_all : (i : ℕ) (outcomes : List Outcome) → length edges ≤ i → AreSoFar i outcomes
      → AllZip Is (map edge_value edges) (map outcome_value outcomes)
  outcomes_all i outcomes past held =
      let gone : drop i edges ≡ [] = drop_all i edges past in
      let all : AllZip Is (map edge_value edges) (map outcome_value outcomes ++ []) = held [] (rw gone tt) in
      rw (append-nil (map outcome_value outcomes)) at all

-- ---- the outcome by a document

module _ (Gives : Loads) (all : Bool) (options : Options) (edge : EdgeValue) where
  -- the outcome by the document that was loaded
  pub known_found : (request : RegistrySpecValue) (packument : Value) (result : Result Outcome RunError)
      → is_passed all edge ≡ false → registry_spec edge.name edge.spec ≡ Some request
      → Gives request.name (Ok (Some packument))
      → IfOk result (λ outcome. IsOutcomeOf (view packument) options request.text edge (outcome_value outcome))
      → IfOk result (λ outcome. IsOutcome Gives all options edge (outcome_value outcome))
  known_found request packument (Ok outcome) counts asked gives is =
      known request packument (outcome_value outcome) counts asked gives is
  known_found request packument (Err error) counts asked gives is = tt

-- a dependency that is outdated, with texts of its own
pub behind_row : (packument : Data) (options : Options) (text : List ℕ) (edge : EdgeValue)
    (wanted latest : String Global) (w l : List ℕ) → string_bytes wanted ≡ w → string_bytes latest ≡ l
    → IsPickedAs packument options text (Some w) → IsPickedAs packument options (codes "*") (Some l)
    → is_current edge w l ≡ false → IsOutcomeOf packument options text edge
    (outdated (record { edge = edge; wanted = string_bytes wanted; latest = string_bytes latest }))
behind_row packument options text edge wanted latest w l same_wanted same_latest is_wanted is_latest not =
    rw (same_wanted, same_latest) (behind w l is_wanted is_latest not)
