-- Which places the dependencies of the root and of the workspaces lead to: npm's "prune".
use Rattle.std.specs.Prelude.{◌≡◌, ℕ, List, Contains, Option, None, Some, IsSomeAnd, false, option_and_then, option_map, slice_get, true}
use Rattle.std.specs.Option.{option_map_or}
use Rattle.npm_texts.specs.RegistrySpec.{registry_spec}
use Rattle.npm_trees.specs.Places.{Sees, is_top, up_of}
use Rattle.npm_trees.specs.declared.tree.Ask.{Ask}
use Rattle.npm_trees.specs.declared.tree.Document.{Document}
use Rattle.npm_trees.specs.declared.tree.Place.{Place}
use Rattle.npm_trees.specs.declared.tree.Stands.{Stands}
use Rattle.npm_trees.specs.declared.tree.Stands.TheVariants.{Link, Package, Top}

abbrev pub target_of : Stands → Option ℕ
target_of (Top at manifest) = None
target_of (Package document version) = None
target_of (Link to) = Some to

-- what a place links to
abbrev pub link_of : List Place → (number : ℕ) → Option ℕ
link_of places number = option_and_then (λ place. target_of place.stands) (slice_get places number)

-- the name in the registry of the package in a place, which a link does not have
abbrev pub own_name : List Document → Stands → Option (List ℕ)
own_name documents (Top at manifest) = None
own_name documents (Package document version) = option_map (λ found. found.name.now) (slice_get documents document)
own_name documents (Link to) = None

-- the same, where a link has that of its target
abbrev pub package_of : List Place → List Document → (number : ℕ) → Option (List ℕ)
package_of places documents number = option_and_then
    (λ place. option_map_or (λ to. option_and_then (λ target. own_name documents target.stands) (slice_get places to)) (target_of place.stands)
    (own_name documents place.stands)) (slice_get places number)

-- The dependency asks for this very package: `a` by `^1`, and `b` under the name `a` by `npm:b@^1`.
abbrev pub AsksFor : List Place → List Document → Ask → (number : ℕ) → Type 0
AsksFor places documents ask number = IsSomeAnd (registry_spec ask.name.now ask.spec.now)
    (λ request. package_of places documents number ≡ Some request.name)

-- One place leads to another: it is in that one's folder, it links to it, or it depends on that package and sees it there.
pub data Leads (places : List Place) (documents : List Document) (asks : List Ask) (number to : ℕ) : Type 0 where
  folder : up_of places number ≡ Some to → Leads places documents asks number to
  link : link_of places number ≡ Some to → Leads places documents asks number to
  dependency : (ask : Ask) → Contains asks ask → ask.from ≡ number → ask.bundled ≡ false → Sees places ask (Some to)
      → AsksFor places documents ask to → Leads places documents asks number to

abbrev pub IsTop : List Place → (number : ℕ) → Type 0
IsTop places number = IsSomeAnd (slice_get places number) (λ place. is_top place.stands ≡ true)

-- The root and the workspaces are reached, and what a place that is reached leads to.
pub data IsReached (places : List Place) (documents : List Document) (asks : List Ask) : (number : ℕ) → Type 0 where
  top : (number : ℕ) → IsTop places number → IsReached places documents asks number
  further : (number to : ℕ) → IsReached places documents asks number → Leads places documents asks number to
      → IsReached places documents asks to

-- all places are
abbrev pub AreReached : List Place → List Document → List Ask → Type 0
AreReached places documents asks = (number : ℕ) (place : Place) → slice_get places number ≡ Some place
    → IsReached places documents asks number
