-- Which trees have the dependencies of their manifests: npm's "package.json", from "dependencies" to "overrides".
use Rattle.std.specs.Prelude.{◌≡◌, ◌==◌, ◌&&◌, ℕ, List, All, Bool, false, Option, Some, None, if◌then◌else◌, map, option_and_then, slice_get}
use Rattle.std.specs.Option.{option_map_or}
use Rattle.serde_json.specs.Data.{Data}
use Rattle.serde_json.specs.View.{view}
use Rattle.npm_overrides.specs.Asks.{AreAsks, AskValue, ask_value}
use Rattle.npm_overrides.specs.Rules.{AreRules, RuleValue}
use Rattle.npm_overrides.specs.declared.asks.Ask.{Ask as Given}
use Rattle.npm_overrides.specs.declared.kind.Kind.{Kind}
use Rattle.npm_overrides.specs.declared.kind.Kind.TheVariants as Kinds
use Rattle.npm_overrides.specs.declared.kind.Owner.{Owner}
use Rattle.npm_overrides.specs.declared.kind.Owner.TheVariants as Owners
use Rattle.npm_trees.specs.Places.{is_peer, is_top}
use Rattle.npm_trees.specs.Whole.{manifest_in}
use Rattle.npm_trees.specs.declared.tree.Ask.{Ask}
use Rattle.npm_trees.specs.declared.tree.Document.{Document}
use Rattle.npm_trees.specs.declared.tree.Kind.{Kind as TreeKind}
use Rattle.npm_trees.specs.declared.tree.Kind.TheVariants as TreeKinds
use Rattle.npm_trees.specs.declared.tree.Place.{Place}
use Rattle.npm_trees.specs.declared.tree.Stands.{Stands}
use Rattle.npm_trees.specs.declared.tree.Stands.TheVariants.{Link, Package, Top}
use Rattle.npm_trees.specs.declared.tree.Tree.{Tree}

-- ---- whose dependencies

-- the manifest of what stands in a place; a link has none
abbrev pub manifest_of : List Document → Stands → Option Data
manifest_of documents (Top at manifest) = Some (view manifest.now)
manifest_of documents (Package document version) = manifest_in documents document version.now
manifest_of documents (Link to) = None

-- the root is the first place
abbrev pub owner_of : (number : ℕ) → Stands → Owner
owner_of number (Top at manifest) = if number == 0 then Owners.Root else Owners.Workspace
owner_of number (Package document version) = Owners.Package
owner_of number (Link to) = Owners.Package

-- ---- a dependency

abbrev pub kind_of : Kind → TreeKind
kind_of Kinds.Needed = TreeKinds.Needed
kind_of Kinds.Dev = TreeKinds.Dev
kind_of Kinds.Optional = TreeKinds.Optional
kind_of Kinds.Peer = TreeKinds.Peer
kind_of Kinds.OptionalPeer = TreeKinds.OptionalPeer

-- the root or a workspace stands in the place
abbrev pub is_top_at : List Place → (number : ℕ) → Bool
is_top_at places number = option_map_or (λ place. is_top place.stands) (slice_get places number) false

-- the root asks for a workspace
abbrev pub is_of_workspace : List Place → Ask → Bool
is_of_workspace places ask = option_map_or (λ number. (ask.from == 0) && is_top_at places number) ask.workspace false

-- A dependency of the tree is as a manifest and rules have it. The rules that count below a peer are those of the package that meets it.
pub record IsAs (places : List Place) (given : AskValue) (ask : Ask) : Type 0 where
  pub spec : ask.spec.now ≡ given.spec
  pub kind : ask.kind ≡ kind_of given.kind
  pub bundled : ask.bundled ≡ given.bundled
  pub workspace : ask.workspace ≡ None
  pub rules : is_peer places ask ≡ false → ask.rules ≡ given.rules

-- A place asks for a name as it is given, but the root for a workspace of this name.
pub record IsGiven (places : List Place) (number : ℕ) (given : AskValue) (ask : Ask) : Type 0 where
  pub from : ask.from ≡ number
  pub name : ask.name.now ≡ given.name
  pub given_as : is_of_workspace places ask ≡ false → IsAs places given ask

-- one of the dependencies of the tree is this one
pub record IsAmong (places : List Place) (asks : List Ask) (number : ℕ) (given : AskValue) : Type 0 where
  pub at : ℕ
  pub ask : Ask
  pub there : slice_get asks at ≡ Some ask
  pub as_given : IsGiven places number given ask

-- ---- all

-- all dependencies of a manifest are among those of the tree
pub record AreAsked (tree : Tree) (rules : List RuleValue) (number : ℕ) (place : Place) (manifest : Data) : Type 0 where
  pub given : List Given
  pub are_asks : AreAsks manifest (owner_of number place.stands) rules place.rules place.rules (map ask_value given)
  pub are_among : All (λ (one : Given). IsAmong tree.places.items tree.asks.items number (ask_value one)) given

abbrev pub IsPlaceTold : List Document → Tree → List RuleValue → (number : ℕ) → Place → Type 0
IsPlaceTold documents tree rules number place = (manifest : Data) → manifest_of documents place.stands ≡ Some manifest
    → AreAsked tree rules number place manifest

-- the manifest of the first place
abbrev pub root_in : List Document → Tree → Option Data
root_in documents tree = option_and_then (λ place. manifest_of documents place.stands) (slice_get tree.places.items 0)

abbrev pub ArePlacesTold : List Document → Tree → List RuleValue → Type 0
ArePlacesTold documents tree rules = (number : ℕ) (place : Place) → slice_get tree.places.items number ≡ Some place
    → IsPlaceTold documents tree rules number place

-- the tree has all dependencies of the manifests of its places, by the rules of the root
pub record AreTold (documents : List Document) (tree : Tree) : Type 0 where
  pub root : Data
  pub is_root : root_in documents tree ≡ Some root
  pub rules : List RuleValue
  pub are_rules : AreRules root rules
  pub are_places : ArePlacesTold documents tree rules
