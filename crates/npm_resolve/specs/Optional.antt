-- Optional dependencies of the root: npm's "package.json", "optionalDependencies". npm proceeds without one "if it cannot be found".
use Rattle.std.specs.Prelude.{◌&&◌, ◌||◌, ℕ, List, [], Bool, false, filter, map, not, slice_get}
use Rattle.std.specs.List.{list_any}
use Rattle.std.specs.Option.{option_map_or}
use Rattle.serde_json.specs.Data.{Data}
use Rattle.serde_json.specs.View.{view}
use Rattle.serde_json.specs.declared.value.Value.{Value}
use Rattle.version_solving.specs.declared.ask.Listed.{Listed}
use Rattle.version_solving.specs.declared.demand.Demand.{Demand}
use Rattle.version_solving.specs.declared.documents.Range.{Range}
use Rattle.npm_packages.specs.Asked.{AskedValue, asked_of}

-- The manifest depends on the name, and not by `optionalDependencies` or as an optional peer.
abbrev pub is_required_in : (manifest : Data) → (name : List ℕ) → Bool
is_required_in manifest name = option_map_or (λ (asked : AskedValue). asked.is_needed) (asked_of manifest false name) false

-- one of the manifests does
abbrev pub is_required : List Value → (name : List ℕ) → Bool
is_required manifests name = list_any (λ (manifest : Value). is_required_in (view manifest) name) manifests

-- A version meets the range.
abbrev pub is_met : List Range → (range : ℕ) → Bool
is_met ranges range = option_map_or (λ (found : Range). list_any (λ allowed. allowed) found.allowed.items) (slice_get ranges range) false

abbrev pub name_at : List Listed → (number : ℕ) → List ℕ
name_at names number = option_map_or (λ (one : Listed). one.name.now) (slice_get names number) []

-- What the root demands by `optionalDependencies` alone, and no version meets.
abbrev pub is_unmet : List Value → List Listed → List Range → Demand → Bool
is_unmet manifests names ranges demand = demand.needed && not (is_met ranges demand.range || is_required manifests (name_at names demand.name))

-- Such a demand only limits.
abbrev pub root_demand : List Value → List Listed → List Range → Demand → Demand
root_demand manifests names ranges demand = record {
  name = demand.name;
  range = demand.range;
  needed = demand.needed && not (is_unmet manifests names ranges demand);
}

abbrev pub root_demands : List Value → List Listed → List Range → List Demand → List Demand
root_demands manifests names ranges demands = map (root_demand manifests names ranges) demands

-- the names of such demands
abbrev pub unmet_names : List Value → List Listed → List Range → List Demand → List (List ℕ)
unmet_names manifests names ranges demands =
    map (λ (demand : Demand). name_at names demand.name) (filter (is_unmet manifests names ranges) demands)
