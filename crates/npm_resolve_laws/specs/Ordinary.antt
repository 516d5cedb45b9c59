-- Dependencies as almost all are: those of which the laws say that both crates read them alike.
use Rattle.npm_packages.specs.Overrides.{rule_in}
use Rattle.std.specs.Prelude.{Bool, List, None, Some, false, is_some, length, true, ℕ, ◌≡◌, ◌≤◌}
use Rattle.std.specs.Cmp.Lexicographic.{slice_cmp}
use Rattle.std.specs.List.{All}
use Rattle.std.specs.List.Sorted.{IsStrictlySortedBy}
use Rattle.std.specs.Ordering.{nat_cmp}
use Rattle.serde_json.specs.Data.{Data, Members}
use Rattle.serde_json.specs.View.{view}
use Rattle.node_semver.specs.Versions.{MAX_LENGTH, VersionValue, version_text, without_build}
use Rattle.npm_texts.specs.Admission.{IsNoRange, of_dependencies}
use Rattle.npm_texts.specs.InstalledVersions.{IsInstalledVersion}
use Rattle.npm_texts.specs.ObjectKeys.{keys_of}
use Rattle.npm_texts.specs.RegistrySpec.{registry_spec}
use Rattle.npm_texts.specs.SpecGrammar.{IsSpec, filled, in_registry, is_tag, location}
use Rattle.npm_texts.specs.WhiteSpace.{trimmed}
use Rattle.npm_packages.specs.Asked.{AskedValue, asked_of}
use Rattle.npm_pick.specs.Packument.{versions_of}
use Rattle.npm_resolve.specs.declared.candidates.options.Omits.{Omits}
use Rattle.npm_resolve.specs.Installed.{InstalledValue}
use Rattle.npm_resolve.specs.declared.documents.Document.{Document}
use Rattle.npm_resolve_laws.specs.Met.{IsInside}

-- ---- specs

-- the text is the version as it is printed, without a build, and has at most 256 bytes: `1.2.3`, `1.2.3-beta.1`
pub record IsExact (text : List ℕ) (v : VersionValue) : Type 0 where
  pub printed : text ≡ version_text (without_build v)
  pub short : length text ≤ MAX_LENGTH

-- a spec of a registry, as `^1.2.3`, `1.2.3`, `latest` and `npm:b@^1`
pub record IsOrdinarySpec (name spec : List ℕ) : Type 0 where
  -- It asks for a package: `npm:^1` names none.
  pub registered : is_some (registry_spec name spec) ≡ true
  pub range : List ℕ
  pub written : IsSpec spec (in_registry range)
  -- No white space is at the ends of the range.
  pub tidy : filled (trimmed range) ≡ range
  -- If it is a version, it is written as it is printed.
  pub exact : (v : VersionValue) → IsInstalledVersion range v → IsExact range v
  -- If it is no range, it is a tag.
  pub tag : IsNoRange of_dependencies range → is_tag range ≡ true

-- A dependency has such a spec; or it is one of no registry, as `github:b/c`, that need not be found.
pub data IsOrdinary (name : List ℕ) (asked : AskedValue) : Type 0 where
  registered : IsOrdinarySpec name asked.spec → IsOrdinary name asked
  elsewhere : IsSpec asked.spec location → asked.is_needed ≡ false → IsOrdinary name asked

-- all dependencies of a manifest are so
abbrev pub AreAllOrdinary : (asker : Data) → (is_installed : Bool) → Type 0
AreAllOrdinary asker is_installed = (name : List ℕ) (asked : AskedValue) → asked_of asker is_installed name ≡ Some asked
    → IsOrdinary name asked

-- ---- all of it

-- no group of dependencies is left out
abbrev pub nothing_omitted : Omits
nothing_omitted = record { dev = false; optional = false; peer = false }

-- No version stands twice in the document: its versions are in the order of their keys, as the members of a `Value` are.
abbrev pub IsOrdered : (packument : Data) → Type 0
IsOrdered packument = (versions : Members) → versions_of packument ≡ Some versions
    → IsStrictlySortedBy (slice_cmp nat_cmp) (keys_of versions)

-- What the law of the whole takes of manifests and documents.
pub record AreOrdinary (root : Data) (documents : List Document) (installed : List InstalledValue) : Type 0 where
  -- No document has a version twice.
  pub ordered : All (λ (document : Document). IsOrdered (view document.packument)) documents
  -- The names of packages have one part, or a scope and a part.
  pub names : All (λ (one : InstalledValue). IsInside one.name) installed
  -- The root has no `overrides`: the resolver reads them, and the lock file does not have them.
  pub no_rules : (name : List ℕ) → rule_in root name ≡ None
  -- The dependencies of the root are ordinary.
  pub of_root : AreAllOrdinary root false
  -- So are those of the packages that are installed.
  pub of_packages : All (λ (one : InstalledValue). AreAllOrdinary one.manifest true) installed
