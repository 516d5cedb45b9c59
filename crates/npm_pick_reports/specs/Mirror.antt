-- The versions that a mirror keeps.
use Rattle.std.specs.Prelude.{◌≡◌, ◌↔◌, ◌⊎◌, ◌&&◌, ◌==◌, ℕ, List, [], ◌∷◌, ◌++◌, Bool, true, false, not, Option, Some, None, Ok}
use Rattle.std.specs.Prelude.{bytes_eq, codes, filter, if◌then◌else◌, is_some, length, map, option_and_then, string_bytes}
use Rattle.std.specs.Cmp.Lexicographic.{slice_cmp}
use Rattle.std.specs.List.{All, Contains, flat_map}
use Rattle.std.specs.List.Sorted.{IsStrictlySortedBy}
use Rattle.std.specs.Option.{option_map_or}
use Rattle.std.specs.Ordering.{nat_cmp}
use Rattle.serde_json.specs.Data.{Data}
use Rattle.serde_json.specs.Find.{get}
use Rattle.serde_json.specs.View.{view}
use Rattle.serde_json.specs.declared.value.Value.{Value}
use Rattle.npm_texts.specs.RegistrySpec.{RegistrySpecValue, registry_spec}
use Rattle.npm_pick.specs.Kept.{IsInOrder, IsKept}
use Rattle.npm_pick.specs.declared.options.Options.{Options}
use Rattle.npm_pick_reports.specs.Asks.{AskValue}
use Rattle.npm_pick_reports.specs.Loading.{Loads}
use Rattle.npm_pick_reports.specs.declared.mirror.KeptPackage.{KeptPackage}

-- ---- requests to a registry

-- The request of a dependency: a package, and a version, a range or a tag. A dependency that `overrides` change in a way
-- that is not read has none.
abbrev pub request_of : AskValue → Option RegistrySpecValue
request_of ask = if ask.is_overridden then None else registry_spec ask.name ask.spec

abbrev pub requests_by : AskValue → List RegistrySpecValue
requests_by ask = option_map_or (λ (request : RegistrySpecValue). request ∷ []) (request_of ask) []

-- the requests of all dependencies
abbrev pub requests_of : List AskValue → List RegistrySpecValue
requests_of asks = flat_map requests_by asks

-- the names of the packages
abbrev pub names_of : List RegistrySpecValue → List (List ℕ)
names_of requests = map (λ (request : RegistrySpecValue). request.name) requests

-- the document of a package is needed: a request names it, or a version of it is installed
abbrev pub IsNeededFor : (requests installed : List RegistrySpecValue) → (name : List ℕ) → Type 0
IsNeededFor requests installed name = Contains (names_of requests ++ names_of installed) name

-- the versions, ranges and tags of the package with this name
abbrev pub texts_for : (name : List ℕ) → List RegistrySpecValue → List (List ℕ)
texts_for name requests = map (λ (request : RegistrySpecValue). request.text)
    (filter (λ (request : RegistrySpecValue). bytes_eq request.name name) requests)

-- these are the versions, ranges and tags of the package
abbrev pub AreTextsOf : List RegistrySpecValue → (name : List ℕ) → (texts : List (List ℕ)) → Type 0
AreTextsOf requests name texts = (text : List ℕ) → Contains texts text ↔ Contains (texts_for name requests) text

-- ---- the versions that are kept

-- these versions of a package and those that are installed, in the order of the versions, each once
pub record AreWithInstalled (picked installed keys : List (List ℕ)) : Type 0 where
  pub ordered : IsInOrder keys
  pub exact : (key : List ℕ) → Contains keys key ↔ (Contains picked key ⊎ Contains installed key)

-- the document of a package has this version
abbrev pub has_version : (packument : Data) → (key : List ℕ) → Bool
has_version packument key = is_some (option_and_then (get key) (get (codes "versions") packument))

-- A package: the versions that are kept; those of them that are installed and that its document lacks; and whether it has
-- no document
pub record PackageValue : Type 0 where
  pub name : List ℕ
  pub keys : List (List ℕ)
  pub lacking : List (List ℕ)
  pub is_absent : Bool

-- it has a document with all its installed versions
abbrev pub is_complete : PackageValue → Bool
is_complete one = not one.is_absent && (length one.lacking == 0)

-- What is kept of the package with this name: the versions for all its texts together, and each that is installed. A package
-- without a document keeps what is installed.
pub data IsPackageFor (Gives : Loads) (options : Options) (all : Bool) (name : List ℕ) (texts installed : List (List ℕ))
    (one : PackageValue)
    : Type 0 where
  absent : Gives name (Ok None) → one.is_absent ≡ true → AreWithInstalled [] installed one.keys → one.lacking ≡ []
      → IsPackageFor Gives options all name texts installed one
  known : (packument : Value) (picked : List (List ℕ)) → Gives name (Ok (Some packument)) → one.is_absent ≡ false
      → IsKept (view packument) options all texts picked → AreWithInstalled picked installed one.keys
      → one.lacking ≡ filter (λ key. not (has_version (view packument) key)) installed
      → IsPackageFor Gives options all name texts installed one

-- the same for the texts of its requests, and for its installed versions
pub record IsPackage (Gives : Loads) (options : Options) (all : Bool) (requests installed : List RegistrySpecValue)
    (one : PackageValue)
    : Type 0 where
  pub texts : List (List ℕ)
  pub versions : List (List ℕ)
  pub asked : AreTextsOf requests one.name texts
  pub found : AreTextsOf installed one.name versions
  pub is : IsPackageFor Gives options all one.name texts versions one

-- What is kept of the packages of all requests and of all that are installed, in the order of the bytes of their names
pub record IsMirror (Gives : Loads) (options : Options) (all : Bool) (requests installed : List RegistrySpecValue)
    (packages : List PackageValue) : Type 0 where
  pub ordered : IsStrictlySortedBy (slice_cmp nat_cmp) (map (λ (one : PackageValue). one.name) packages)
  pub exact : (name : List ℕ) → Contains (map (λ (one : PackageValue). one.name) packages) name
      ↔ IsNeededFor requests installed name
  pub kept : All (IsPackage Gives options all requests installed) packages

-- what a contract sees of a package
abbrev pub package_value : KeptPackage → PackageValue
package_value one = record {
  name = string_bytes one.name;
  keys = map string_bytes one.versions.items;
  lacking = map string_bytes one.lacking.items;
  is_absent = one.is_absent;
}
