-- Which place meets a dependency: npm's "package.json", "dependencies", and `npm-package-arg`.
use Rattle.std.specs.Prelude.{◌≡◌, ◌==◌, ◌||◌, ℕ, List, Bool, All, Option, None, Some, IsSomeAnd, MatchOption, bytes_eq, codes, false}
use Rattle.std.specs.Prelude.{option_and_then, slice_get, true}
use Rattle.std.specs.Str.{trim}
use Rattle.serde_json.specs.Find.{as_str, get}
use Rattle.serde_json.specs.View.{view}
use Rattle.node_semver.specs.Versions.{VersionValue}
use Rattle.npm_texts.specs.Admission.{Admits, IsNoRange, of_dependencies}
use Rattle.npm_texts.specs.InstalledVersions.{IsInstalledVersion}
use Rattle.npm_texts.specs.RegistrySpec.{registry_spec}
use Rattle.npm_texts.specs.SpecGrammar.{is_tag}
use Rattle.npm_trees.specs.Places.{HasNone, Sees, is_package, is_peer, is_top}
use Rattle.npm_trees.specs.declared.tree.Ask.{Ask}
use Rattle.npm_trees.specs.declared.tree.Kind.{Kind}
use Rattle.npm_trees.specs.declared.tree.Kind.TheVariants as Kinds
use Rattle.npm_trees.specs.declared.tree.Place.{Place}
use Rattle.npm_trees.specs.declared.tree.Stands.{Stands}
use Rattle.npm_trees.specs.declared.tree.Stands.TheVariants.{Link, Package, Top}

-- ---- versions

-- the version of what stands in a place, as its manifest writes it; a link has none of its own
abbrev pub own_version : Stands → Option (List ℕ)
own_version (Top at manifest) = option_and_then as_str (get (codes "version") (view manifest.now))
own_version (Package document version) = Some version.now
own_version (Link to) = None

-- the same, where a link has that of its target
abbrev pub version_of : List Place → Stands → Option (List ℕ)
version_of places (Top at manifest) = own_version (Top at manifest)
version_of places (Package document version) = Some version.now
version_of places (Link to) = option_and_then (λ target. own_version target.stands) (slice_get places to)

-- `*` asks for any version, a prerelease too
abbrev pub asks_for_any : (text : List ℕ) → Bool
asks_for_any text = bytes_eq (trim text) (codes "*")

-- A version meets the text of a spec: the text is `*`, or a range that admits what npm reads the version as. A tag is met by any version
-- that is from a registry.
pub data IsTextMet (text : List ℕ) (version : Option (List ℕ)) (is_registered : Bool) : Type 0 where
  any : asks_for_any text ≡ true → IsTextMet text version is_registered
  inside : (written : List ℕ) (v : VersionValue) → version ≡ Some written → IsInstalledVersion written v
      → Admits of_dependencies text v → IsTextMet text version is_registered
  tag : IsNoRange of_dependencies text → is_tag text ≡ true → is_registered ≡ true → IsTextMet text version is_registered

-- ---- dependencies

-- The rules of `overrides` that must count for what meets the dependency count there. Of the root, of workspaces and of peers they need not.
abbrev pub has_rules : List Place → Ask → Place → Bool
has_rules places ask place = is_top place.stands || (is_peer places ask || (place.rules == ask.rules))

-- what stands in a place meets the spec, which is none of a URL, a repository, a file or a folder
abbrev pub IsSpecMet : List Place → Ask → Place → Type 0
IsSpecMet places ask place = IsSomeAnd (registry_spec ask.name.now ask.spec.now)
    (λ request. IsTextMet request.text (version_of places place.stands) (is_package place.stands))

-- The place meets the dependency. A dependency of the root on a workspace is met by that workspace alone.
abbrev pub Meets : List Place → Ask → (number : ℕ) → Type 0
Meets places ask number = MatchOption ask.workspace
    (IsSomeAnd (slice_get places number) (λ place. (has_rules places ask place ≡ true) × IsSpecMet places ask place))
    (λ workspace. number ≡ workspace)

abbrev pub is_optional : Kind → Bool
is_optional Kinds.Needed = false
is_optional Kinds.Dev = false
is_optional Kinds.Optional = true
is_optional Kinds.Peer = false
is_optional Kinds.OptionalPeer = true

-- What is seen meets the dependency, or nothing is seen and nothing need be.
abbrev pub IsAnswered : List Place → Ask → Option ℕ → Type 0
IsAnswered places ask None = is_optional ask.kind ≡ true
IsAnswered places ask (Some number) = Meets places ask number

-- A dependency is answered. A peer is not inside the package that asks for it, which npm refuses.
pub record IsMetFor (places : List Place) (ask : Ask) : Type 0 where
  pub outside : is_peer places ask ≡ true → HasNone places ask.from ask.name.now
  pub found : Option ℕ
  pub seen : Sees places ask found
  pub answered : IsAnswered places ask found

-- all dependencies are, but those that come in the tarball of the package that asks
abbrev pub IsMet : List Place → List Ask → Type 0
IsMet places asks = All (λ (ask : Ask). ask.bundled ≡ false → IsMetFor places ask) asks
