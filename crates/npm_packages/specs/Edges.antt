-- The dependencies of a lock file, and the package that is installed for each: npm's "npm outdated".
use Rattle.std.specs.Prelude.{◌≡◌, ◌↔◌, ℕ, List, [], ◌++◌, Bool, IsTrue, Option, Some, codes, option_and_then, option_map}
use Rattle.std.specs.Bool.{MatchBool}
use Rattle.std.specs.List.{AllZip}
use Rattle.serde_json.specs.Data.{Data, Members, member, no_members, object}
use Rattle.serde_json.specs.Find.{get}
use Rattle.npm_packages.specs.Asked.{AreNames, AskedValue, asked_of}
use Rattle.npm_packages.specs.Folders.{IsInstalled}
use Rattle.npm_packages.specs.Overrides.{overridden}
use Rattle.npm_packages.specs.Packages.{IsFound, Package, is_link, version_of}
use Rattle.npm_packages.specs.declared.edges.Edge.{Edge}

-- A dependency of the package in a folder: its name and its spec, and the folder and the version of the package that is
-- found
pub record EdgeValue : Type 0 where
  pub from : List ℕ
  pub name : List ℕ
  pub spec : List ℕ
  pub is_needed : Bool
  pub is_peer : Bool
  pub is_dev : Bool
  pub is_overridden : Bool
  pub to : Option (List ℕ)
  pub version : Option (List ℕ)

-- the dependency on a name by this spec, for which this package is found
abbrev pub edge_of : (folder name : List ℕ) → AskedValue → Option Package → EdgeValue
edge_of folder name asked found = record {
  from = folder;
  name = name;
  spec = asked.spec;
  is_needed = asked.is_needed;
  is_peer = asked.is_peer;
  is_dev = asked.is_dev;
  is_overridden = asked.is_overridden;
  to = option_map (λ there. there.folder) found;
  version = option_and_then (λ there. version_of there.member) found;
}

-- the dependency of the package in this folder on a name, as `overrides` change it, with the package that is found
pub data IsEdge (packages : Data) (folder : List ℕ) (asker : Data) (is_installed : Bool) (name : List ℕ)
    : EdgeValue → Type 0 where
  dependency : (asked : AskedValue) (found : Option Package) → asked_of asker is_installed name ≡ Some asked
      → IsFound packages name folder found
      → IsEdge packages folder asker is_installed name (edge_of folder name (overridden packages folder name asked) found)

-- the dependencies of the package in this folder, name by name
pub record ArePackageEdges (packages : Data) (folder : List ℕ) (asker : Data) (edges : List EdgeValue) : Type 0 where
  pub is_installed : Bool
  pub installed : IsTrue is_installed ↔ IsInstalled folder
  pub names : List (List ℕ)
  pub are_names : AreNames asker is_installed names
  pub each : AllZip (IsEdge packages folder asker is_installed) names edges

-- a link is no package, and has no dependencies
abbrev pub AreMemberEdges : (packages : Data) → (folder : List ℕ) → (entry : Data) → List EdgeValue → Type 0
AreMemberEdges packages folder entry edges =
    MatchBool (is_link entry) (edges ≡ []) (ArePackageEdges packages folder entry edges)

-- the dependencies of one package after another
abbrev pub AreEdges : (packages : Data) → Members → List EdgeValue → Type 0
AreEdges packages no_members edges = edges ≡ []
AreEdges packages (member folder entry others) edges = (here : List EdgeValue) × (later : List EdgeValue)
    × AreMemberEdges packages folder entry here × AreEdges packages others later × (edges ≡ here ++ later)

-- the dependencies of all packages of a lock file
pub record AreLockEdges (lock : Data) (edges : List EdgeValue) : Type 0 where
  pub members : Members
  pub packages : get (codes "packages") lock ≡ Some (object members)
  pub are : AreEdges (object members) members edges

-- what a contract sees of a dependency
abbrev pub edge_value : Edge → EdgeValue
edge_value edge = record {
  from = edge.from.now;
  name = edge.name.now;
  spec = edge.spec.now;
  is_needed = edge.is_needed;
  is_peer = edge.is_peer;
  is_dev = edge.is_dev;
  is_overridden = edge.is_overridden;
  to = option_map (λ folder. folder.now) edge.to;
  version = option_map (λ version. version.now) edge.version;
}
