-- The packages in the `node_modules` of a root.
use Rattle.std.specs.Prelude.{ℕ, List, [], ◌∷◌, if◌then◌else◌, Option, None, Some, bytes_eq}
use Rattle.serde_json.specs.Data.{Data}
use Rattle.serde_json.specs.View.{view}
use Rattle.npm_resolve.specs.declared.flat_locks.installed.Installed.{Installed}

-- the name that it is installed under, its name in the registry, its version, and what the document says of the version
pub record InstalledValue : Type 0 where
  pub name : List ℕ
  pub of_package : List ℕ
  pub version : List ℕ
  pub manifest : Data

-- the package, if it has this name, or else the one before it
abbrev pub later_found : (before : Option InstalledValue) → InstalledValue → (name : List ℕ) → Option InstalledValue
later_found before one name = if bytes_eq one.name name then Some one else before

-- the package that is installed under a name: the last one of these, or the one before them
abbrev pub found_after : (before : Option InstalledValue) → List InstalledValue → (name : List ℕ) → Option InstalledValue
found_after before [] name = before
found_after before (one ∷ others) name = found_after (later_found before one name) others name

abbrev pub found : List InstalledValue → (name : List ℕ) → Option InstalledValue
found installed name = found_after None installed name

-- what a contract sees of it
abbrev pub installed_value : Installed → InstalledValue
installed_value one = record {
  name = one.name.now;
  of_package = one.package.now;
  version = one.version.now;
  manifest = view one.manifest.now;
}
