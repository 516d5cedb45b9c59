-- What a manifest asks for: npm's "package.json", from "dependencies" to "optionalDependencies".
use Rattle.std.specs.Prelude.{◌≡◌, ◌&&◌, ◌||◌, ℕ, List, [], ◌∷◌, Bool, filter, flat_map, Option, if◌then◌else◌, is_some, not, true, false}
use Rattle.std.specs.Option.{option_map_or}
use Rattle.serde_json.specs.Data.{Data}
use Rattle.version_solving.specs.declared.ask.Ask.{Ask}
use Rattle.npm_packages.specs.Asked.{AreNames, AskedValue, asked_of}
use Rattle.npm_packages.specs.Overrides.{RuleValue, changed_by}
use Rattle.npm_texts.specs.RegistrySpec.{registry_spec}
use Rattle.npm_resolve.specs.declared.candidates.options.Omits.{Omits}
use Rattle.npm_resolve.specs.declared.candidates.owner.Owner.{Owner}
use Rattle.npm_resolve.specs.declared.candidates.owner.Owner.TheVariants as Owners
use Rattle.npm_resolve.specs.declared.candidates.owner.Reach.TheVariants as Reaches

-- What `overrides` of the root say of a name: npm's "package.json", "overrides".
abbrev pub RulesValue : Type 0
RulesValue = (name : List ℕ) → Option RuleValue

-- a name, its spec, and whether the name must be selected
pub record AskValue : Type 0 where
  pub name : List ℕ
  pub spec : List ℕ
  pub needed : Bool

abbrev pub is_root : Owner → Bool
is_root Owners.Root = true
is_root (Owners.Version reach) = false

-- of a root, and of a version whose dependencies count, the groups beside the peers count
abbrev pub has_dependencies : Owner → Bool
has_dependencies Owners.Root = true
has_dependencies (Owners.Version Reaches.Peers) = false
has_dependencies (Owners.Version Reaches.Dependencies) = true

-- Two are not needed: a peer that `peerDependenciesMeta` calls optional; and an optional dependency of a version, without which npm
-- proceeds "if it cannot be found". Both only limit: npm calls an installed version outside their ranges invalid.
abbrev pub ask_of : Owner → (name : List ℕ) → AskedValue → AskValue
ask_of owner name asked = record { name = name; spec = asked.spec; needed = asked.is_needed || (is_root owner && not asked.is_peer) }

-- The groups that count, if they are not left out: the peers, and where dependencies count also the others. A dependency of
-- `optionalDependencies` is the one that need not be found, and is no peer. Of a version `devDependencies` are not read.
abbrev pub counts : Owner → Omits → AskedValue → Bool
counts owner omits asked = if asked.is_peer then not omits.peer
    else (has_dependencies owner && (if asked.is_dev then not omits.dev else (asked.is_needed || not omits.optional)))

-- what is asked of a name, if it counts
abbrev pub asks_by : Owner → Omits → (name : List ℕ) → AskedValue → List AskValue
asks_by owner omits name asked = if counts owner omits asked then ask_of owner name asked ∷ [] else []

-- What is asked of a name that a manifest depends on, if it counts. If the root has a rule for the name, the spec of the rule counts in
-- place of the one that is written, as `changed_by` says of a package in the folder of the root, which is `[]`. A rule that is not read
-- changes nothing.
abbrev pub asks_on : (manifest : Data) → Owner → RulesValue → Omits → (name : List ℕ) → List AskValue
asks_on manifest owner rules omits name = option_map_or (λ asked. asks_by owner omits name (changed_by (rules name) [] asked))
    (asked_of manifest (not (is_root owner)) name) []

-- what is asked, of a registry or not, in the order of the names
pub record AreAllAsks (manifest : Data) (owner : Owner) (rules : RulesValue) (omits : Omits) (asks : List AskValue) : Type 0 where
  pub names : List (List ℕ)
  pub are_names : AreNames manifest (not (is_root owner)) names
  pub found : asks ≡ flat_map (asks_on manifest owner rules omits) names

-- it asks a registry: it is no folder, no repository, no URL, and no alias that npm refuses
abbrev pub is_registered : AskValue → Bool
is_registered ask = is_some (registry_spec ask.name ask.spec)

-- what is asked of a registry, and what is left out
pub record AreAsks (manifest : Data) (owner : Owner) (rules : RulesValue) (omits : Omits) (asks left_out : List AskValue) : Type 0 where
  pub all : List AskValue
  pub are : AreAllAsks manifest owner rules omits all
  pub kept : asks ≡ filter is_registered all
  pub others : left_out ≡ filter (λ ask. not (is_registered ask)) all

-- what a contract sees of an ask
abbrev pub ask_value : Ask → AskValue
ask_value ask = record { name = ask.name.now; spec = ask.spec.now; needed = ask.needed }
