-- Which dependencies of a lock file are outdated: npm's "npm outdated".
use Rattle.std.specs.Prelude.{◌≡◌, ◌⊎◌, ◌&&◌, ◌||◌, ◌==◌, ℕ, List, Bool, true, false, Option, Some, None}
use Rattle.std.specs.Prelude.{Ok, Err, bytes_eq, codes, is_none, length, not, string_bytes}
use Rattle.std.specs.List.{Contains}
use Rattle.serde_json.specs.Data.{Data}
use Rattle.serde_json.specs.View.{view}
use Rattle.serde_json.specs.declared.value.Value.{Value}
use Rattle.npm_packages.specs.Edges.{EdgeValue, edge_value}
use Rattle.npm_texts.specs.RangeText.{filled}
use Rattle.npm_texts.specs.RegistrySpec.{RegistrySpecValue, registry_spec}
use Rattle.npm_pick.specs.Pick.{IsPicked, PickedValue}
use Rattle.npm_pick.specs.declared.error.PickError.{PickError}
use Rattle.npm_pick.specs.declared.options.Options.{Options}
use Rattle.npm_pick_reports.specs.Loading.{Loads}
use Rattle.npm_pick_reports.specs.declared.outdated.Outcome.{Outcome}
use Rattle.npm_pick_reports.specs.declared.outdated.Outcome.TheVariants as Outcomes
use Rattle.npm_pick_reports.specs.declared.outdated.Row.{Row}

-- a dependency that is outdated, the version that npm would install for its spec, and that for `*`
pub record RowValue : Type 0 where
  pub edge : EdgeValue
  pub wanted : List ℕ
  pub latest : List ℕ

-- the outcome of a dependency: it is outdated; there is no document of its package; or neither
pub data OutcomeValue : Type 0 where
  outdated : RowValue → OutcomeValue
  absent : OutcomeValue
  passed : OutcomeValue

-- A dependency that is left out: one of another package than the root, unless all count; one that `overrides` change
-- in a way that is not read here; and, as npm does, one in development alone or a peer that is missing.
abbrev pub is_passed : (all : Bool) → EdgeValue → Bool
is_passed all edge = (not all && not (length edge.from == 0)) || edge.is_overridden
    || (is_none edge.to && edge.is_needed && (edge.is_peer || edge.is_dev))

-- this version is installed
abbrev pub has_version : Option (List ℕ) → (key : List ℕ) → Bool
has_version None key = false
has_version (Some version) key = bytes_eq version key

-- the wanted version is installed, and is the latest
abbrev pub is_current : EdgeValue → (wanted latest : List ℕ) → Bool
is_current edge wanted latest = has_version edge.version wanted && bytes_eq wanted latest

-- the version that npm would install for a text, if there is one
pub data IsPickedAs (packument : Data) (options : Options) (text : List ℕ) : Option (List ℕ) → Type 0 where
  picked : (version : PickedValue) → IsPicked packument options (filled text) (Ok version)
      → IsPickedAs packument options text (Some version.key)
  none : (error : PickError) → IsPicked packument options (filled text) (Err error)
      → IsPickedAs packument options text None

-- the outcome of a dependency with this text, by the document of its package
pub data IsOutcomeOf (packument : Data) (options : Options) (text : List ℕ) (edge : EdgeValue)
    : OutcomeValue → Type 0 where
  unpicked : IsPickedAs packument options text None ⊎ IsPickedAs packument options (codes "*") None
      → IsOutcomeOf packument options text edge passed
  current : (wanted latest : List ℕ) → IsPickedAs packument options text (Some wanted)
      → IsPickedAs packument options (codes "*") (Some latest) → is_current edge wanted latest ≡ true
      → IsOutcomeOf packument options text edge passed
  behind : (wanted latest : List ℕ) → IsPickedAs packument options text (Some wanted)
      → IsPickedAs packument options (codes "*") (Some latest) → is_current edge wanted latest ≡ false
      → IsOutcomeOf packument options text edge
      (outdated (record { edge = edge; wanted = wanted; latest = latest }))

-- the outcome of a dependency
pub data IsOutcome (Gives : Loads) (all : Bool) (options : Options) (edge : EdgeValue) : OutcomeValue → Type 0 where
  left_out : is_passed all edge ≡ true → IsOutcome Gives all options edge passed
  elsewhere : is_passed all edge ≡ false → registry_spec edge.name edge.spec ≡ None
      → IsOutcome Gives all options edge passed
  unknown : (request : RegistrySpecValue) → is_passed all edge ≡ false
      → registry_spec edge.name edge.spec ≡ Some request → Gives request.name (Ok None)
      → IsOutcome Gives all options edge absent
  known : (request : RegistrySpecValue) (packument : Value) (outcome : OutcomeValue) → is_passed all edge ≡ false
      → registry_spec edge.name edge.spec ≡ Some request → Gives request.name (Ok (Some packument))
      → IsOutcomeOf (view packument) options request.text edge outcome → IsOutcome Gives all options edge outcome

-- the document of this package is needed for a dependency: it is not left out, and asks a registry for the package
abbrev pub IsNeededFor : (all : Bool) → EdgeValue → (name : List ℕ) → Type 0
IsNeededFor all edge name = (request : RegistrySpecValue) × (is_passed all edge ≡ false)
    × (registry_spec edge.name edge.spec ≡ Some request) × (request.name ≡ name)

-- the document of this package is needed for one of these dependencies
abbrev pub IsNeededForOne : (all : Bool) → List EdgeValue → (name : List ℕ) → Type 0
IsNeededForOne all edges name = (edge : EdgeValue) × Contains edges edge × IsNeededFor all edge name

-- what a contract sees of it
abbrev pub row_value : Row → RowValue
row_value row = record {
  edge = edge_value row.edge;
  wanted = string_bytes row.wanted;
  latest = string_bytes row.latest;
}

abbrev pub outcome_value : Outcome → OutcomeValue
outcome_value (Outcomes.Outdated row) = outdated (row_value row)
outcome_value Outcomes.Absent = absent
outcome_value Outcomes.Passed = passed

-- ---- kinds of outcomes

abbrev pub is_outdated : OutcomeValue → Bool
is_outdated (outdated row) = true
is_outdated absent = false
is_outdated passed = false

abbrev pub is_absent : OutcomeValue → Bool
is_absent (outdated row) = false
is_absent absent = true
is_absent passed = false
