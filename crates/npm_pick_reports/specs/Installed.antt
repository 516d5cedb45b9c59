-- Which packages of a lock file ask a registry: npm's "package-lock.json", "packages", and "npm ci".
use Rattle.std.specs.Prelude.{◌≡◌, ◌⊎◌, ◌&&◌, ◌||◌, ℕ, List, [], ◌∷◌, ◌++◌, Bool, true, false, not, Option, Some, None}
use Rattle.std.specs.Prelude.{codes, is_none, nat_eq, option_and_then}
use Rattle.std.specs.List.{starts_with}
use Rattle.std.specs.Option.{option_map_or}
use Rattle.serde_json.specs.Data.{Data, Members, member, no_members, object}
use Rattle.serde_json.specs.Find.{as_str, get}
use Rattle.npm_packages.specs.Edges.{AreLockEdges, EdgeValue}
use Rattle.npm_packages.specs.Folders.{IsInstalled}
use Rattle.npm_packages.specs.Packages.{IsNamed, is_link, version_of}
use Rattle.npm_texts.specs.RegistrySpec.{RegistrySpecValue, registry_spec}

-- ---- dependencies that ask no registry

-- a dependency by a URL, a repository, a file or a folder; what unread `overrides` make of one is not known
abbrev pub is_elsewhere : EdgeValue → Bool
is_elsewhere edge = not edge.is_overridden && is_none (registry_spec edge.name edge.spec)

-- such a dependency finds the package in this folder
abbrev pub IsFoundElsewhere : EdgeValue → (folder : List ℕ) → Type 0
IsFoundElsewhere edge folder = (is_elsewhere edge ≡ true) × (edge.to ≡ Some folder)

-- one of these dependencies does
abbrev pub IsFromElsewhere : List EdgeValue → (folder : List ℕ) → Type 0
IsFromElsewhere [] folder = ⊥
IsFromElsewhere (edge ∷ edges) folder = IsFoundElsewhere edge folder ⊎ IsFromElsewhere edges folder

-- ---- packages that ask one

-- an address of the web, as that of an archive in a registry; that of a repository begins with `git`, that of a file with `file:`
abbrev pub is_address : (text : List ℕ) → Bool
is_address text = starts_with nat_eq text (codes "https:") || starts_with nat_eq text (codes "http:")

-- where a package is from, as the lock file writes it
abbrev pub resolved_of : (entry : Data) → Option (List ℕ)
resolved_of entry = option_and_then as_str (get (codes "resolved") entry)

-- `resolved` of a package names no repository, no file and no folder; for a registry npm may leave it out
abbrev pub is_from_web : (entry : Data) → Bool
is_from_web entry = option_map_or is_address (resolved_of entry) true

-- `npm ci` asks a registry for the package in this folder. It is in a `node_modules`, so it is neither the root nor a
-- workspace; it is no link; and neither `resolved` nor a dependency says that it is from elsewhere
pub record AsksRegistry (IsElsewhere : List ℕ → Type 0) (folder : List ℕ) (entry : Data) : Type 0 where
  pub installed : IsInstalled folder
  pub no_link : is_link entry ≡ false
  pub from_web : is_from_web entry ≡ true
  pub from_registry : ¬ IsElsewhere folder

-- What a member of `packages` asks for: its version of the package by its name, which for an alias is not that of its
-- folder. A package without a version asks for none.
pub data IsAskedBy (IsElsewhere : List ℕ → Type 0) (folder : List ℕ) (entry : Data)
    : List RegistrySpecValue → Type 0 where
  asked : (name version : List ℕ) → AsksRegistry IsElsewhere folder entry
      → IsNamed (record { folder = folder; member = entry }) name → version_of entry ≡ Some version
      → IsAskedBy IsElsewhere folder entry (record { name = name; text = version } ∷ [])
  other : ¬ AsksRegistry IsElsewhere folder entry → IsAskedBy IsElsewhere folder entry []
  unversioned : version_of entry ≡ None → IsAskedBy IsElsewhere folder entry []

-- what one member after another asks for
abbrev pub AreAskedBy : (IsElsewhere : List ℕ → Type 0) → Members → List RegistrySpecValue → Type 0
AreAskedBy IsElsewhere no_members installed = installed ≡ []
AreAskedBy IsElsewhere (member folder entry others) installed = (here : List RegistrySpecValue)
    × (later : List RegistrySpecValue) × IsAskedBy IsElsewhere folder entry here
    × AreAskedBy IsElsewhere others later × (installed ≡ here ++ later)

-- the installed versions of a lock file: each package that asks a registry has its own
pub record AreInstalled (lock : Data) (installed : List RegistrySpecValue) : Type 0 where
  pub members : Members
  pub packages : get (codes "packages") lock ≡ Some (object members)
  pub edges : List EdgeValue
  pub of_lock : AreLockEdges lock edges
  pub are : AreAskedBy (IsFromElsewhere edges) members installed

-- those of the lock file, or none if there is no lock file
abbrev pub AreInstalledIfAny : (lock : Option Data) → List RegistrySpecValue → Type 0
AreInstalledIfAny None installed = installed ≡ []
AreInstalledIfAny (Some lock) installed = AreInstalled lock installed
