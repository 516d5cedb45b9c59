-- Each dependency is met by the package that is installed under its name: npm's "package.json", "dependencies".
use Rattle.std.specs.Prelude.{◌≡◌, ℕ, List, [], Bool, None, Some, false, true}
use Rattle.std.specs.List.{All}
use Rattle.serde_json.specs.Data.{Data}
use Rattle.node_semver.specs.Versions.{VersionValue}
use Rattle.npm_texts.specs.Admission.{Admits, IsNoRange, of_dependencies}
use Rattle.npm_texts.specs.InstalledVersions.{IsInstalledVersion}
use Rattle.npm_texts.specs.SpecGrammar.{IsSpec, in_registry, is_tag, location}
use Rattle.npm_lock.specs.Verdict.{asks_for_any}
use Rattle.npm_packages.specs.Asked.{AskedValue, asked_of}
use Rattle.npm_packages.specs.Folders.{is_up, place_in}
use Rattle.npm_packages.specs.LastParts.{IsPlain}
use Rattle.npm_resolve.specs.Installed.{InstalledValue, found}

-- a name of one part, or of a scope and a part, whose folder does not lead up as `node_modules/..` does
pub record IsInside (name : List ℕ) : Type 0 where
  pub plain : IsPlain name
  pub down : is_up (place_in [] name) ≡ false

-- A version may stand for a spec: the spec is in no registry, asks for any version, or is a tag; or it is a range that admits what npm
-- reads the version as.
pub data IsKept (version spec : List ℕ) : Type 0 where
  elsewhere : IsSpec spec location → IsKept version spec
  any : (range : List ℕ) → IsSpec spec (in_registry range) → asks_for_any range ≡ true → IsKept version spec
  tag : (range : List ℕ) → IsSpec spec (in_registry range) → IsNoRange of_dependencies range → is_tag range ≡ true → IsKept version spec
  inside : (range : List ℕ) (v : VersionValue) → IsSpec spec (in_registry range) → ¬ IsNoRange of_dependencies range
      → IsInstalledVersion version v → ((w : VersionValue) → IsInstalledVersion version w → Admits of_dependencies range w)
      → IsKept version spec

-- A dependency on a name: a version is installed under it that may stand for the spec; or nothing is, and nothing need be.
pub data IsMet (installed : List InstalledValue) (name : List ℕ) (asked : AskedValue) : Type 0 where
  met : (one : InstalledValue) → found installed name ≡ Some one → IsKept one.version asked.spec → IsMet installed name asked
  unneeded : found installed name ≡ None → asked.is_needed ≡ false → IsMet installed name asked

-- all dependencies of a manifest are
abbrev pub AreAllMet : List InstalledValue → (asker : Data) → (is_installed : Bool) → Type 0
AreAllMet installed asker is_installed = (name : List ℕ) (asked : AskedValue) → asked_of asker is_installed name ≡ Some asked
    → IsMet installed name asked

-- those of the root and of all packages are
pub record AreMet (root : Data) (installed : List InstalledValue) : Type 0 where
  pub names : All (λ (one : InstalledValue). IsInside one.name) installed
  pub of_root : AreAllMet installed root false
  pub of_packages : All (λ (one : InstalledValue). AreAllMet installed one.manifest true) installed
