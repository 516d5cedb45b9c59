-- The installed packages of a lock file: npm's "package-lock.json", "packages".
use Rattle.std.specs.Prelude.{◌≡◌, ◌≢◌, ◌⊎◌, ℕ, List, [], ◌∷◌, Option, Some, None, codes, true, false}
use Rattle.serde_json.specs.Data.{Data, Members, member, no_members, object}
use Rattle.serde_json.specs.Find.{get}
use Rattle.npm_packages.specs.Aliases.{AreAliases}
use Rattle.npm_packages.specs.Dependents.{AreDependents}
use Rattle.npm_packages.specs.Packages.{is_link}
use Rattle.npm_advisories.specs.Advisories.{text_of}
use Rattle.npm_advisories.specs.Audit.{InstalledValue}
use Rattle.npm_packages.specs.LastParts.{IsEnd}

-- The name of a package that says none: that by which an alias asks for it, or else what npm names it by its folder: `@s/a` in
-- `b/node_modules/@s/a`, and `w` in `packages/w`, a workspace.
pub data IsUnsaidName (folder : List ℕ) (alias : Option (List ℕ)) : List ℕ → Type 0 where
  asked : (name : List ℕ) → alias ≡ Some name → IsUnsaidName folder alias name
  placed : (name : List ℕ) → alias ≡ None → IsEnd folder name → IsUnsaidName folder alias name

-- The name of a package: its member `name`, which an alias has as npm writes it. An empty name counts as none.
pub data IsName (folder : List ℕ) (alias : Option (List ℕ)) (entry : Data) : List ℕ → Type 0 where
  said : (name : List ℕ) → text_of (codes "name") entry ≡ Some name → name ≢ [] → IsName folder alias entry name
  unsaid : (name : List ℕ) → (text_of (codes "name") entry ≡ None) ⊎ (text_of (codes "name") entry ≡ Some [])
      → IsUnsaidName folder alias name → IsName folder alias entry name

-- the package in a folder, which is neither the root nor a link
pub record IsInstalledAs (texts_at : (folder : List ℕ) → List (List ℕ)) (alias_at : (folder : List ℕ) → Option (List ℕ))
    (folder : List ℕ) (entry : Data) (one : InstalledValue) : Type 0 where
  pub no_root : folder ≢ []
  pub no_link : is_link entry ≡ false
  pub name : IsName folder (alias_at folder) entry one.name
  pub version : text_of (codes "version") entry ≡ one.version
  pub same : one.folder ≡ folder
  pub asked : one.asked ≡ texts_at folder

-- any other member of `packages`
abbrev pub IsOther : (folder : List ℕ) → (entry : Data) → Type 0
IsOther folder entry = (folder ≡ []) ⊎ (is_link entry ≡ true)

-- the packages of a lock file, in the order of their folders' bytes
pub data AreInstalled (texts_at : (folder : List ℕ) → List (List ℕ)) (alias_at : (folder : List ℕ) → Option (List ℕ))
    : Members → List InstalledValue → Type 0 where
  none : AreInstalled texts_at alias_at no_members []
  one_more : (folder : List ℕ) (entry : Data) (others : Members) (one : InstalledValue) (all : List InstalledValue)
      → IsInstalledAs texts_at alias_at folder entry one → AreInstalled texts_at alias_at others all
      → AreInstalled texts_at alias_at (member folder entry others) (one ∷ all)
  other : (folder : List ℕ) (entry : Data) (others : Members) (all : List InstalledValue) → IsOther folder entry
      → AreInstalled texts_at alias_at others all → AreInstalled texts_at alias_at (member folder entry others) all

-- the installed packages of a lock file, each with the range texts of its dependents, and the name by which an alias asks for it
pub record AreInstalledOf (lock : Data) (installed : List InstalledValue) : Type 0 where
  pub members : Members
  pub packages : get (codes "packages") lock ≡ Some (object members)
  pub texts_at : (folder : List ℕ) → List (List ℕ)
  pub dependents : AreDependents lock texts_at
  pub alias_at : (folder : List ℕ) → Option (List ℕ)
  pub aliases : AreAliases lock alias_at
  pub each : AreInstalled texts_at alias_at members installed
