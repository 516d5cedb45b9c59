-- Places of a tree, and what they see: npm's "folders", "Cycles, Conflicts, and Folder Parsimony".
use Rattle.std.specs.Prelude.{◌≡◌, ◌&&◌, ℕ, List, Bool, false, true, Option, None, Some, option_and_then, slice_get, unwrap_or, if◌then◌else◌}
use Rattle.std.specs.Option.{option_map_or}
use Rattle.npm_trees.specs.declared.tree.Ask.{Ask}
use Rattle.npm_trees.specs.declared.tree.Kind.{Kind}
use Rattle.npm_trees.specs.declared.tree.Kind.TheVariants as Kinds
use Rattle.npm_trees.specs.declared.tree.Place.{Place}
use Rattle.npm_trees.specs.declared.tree.Stands.{Stands}
use Rattle.npm_trees.specs.declared.tree.Stands.TheVariants as Standing

-- ---- folders

-- the root or a workspace
abbrev pub is_top : Stands → Bool
is_top (Standing.Top at manifest) = true
is_top (Standing.Package document version) = false
is_top (Standing.Link to) = false

-- a version of a document
abbrev pub is_package : Stands → Bool
is_package (Standing.Top at manifest) = false
is_package (Standing.Package document version) = true
is_package (Standing.Link to) = false

-- the place in whose folder a place is
abbrev pub up_of : List Place → (number : ℕ) → Option ℕ
up_of places number = option_and_then (λ place. place.up) (slice_get places number)

-- a place has this name in the folder of another
pub record IsIn (places : List Place) (folder : ℕ) (name : List ℕ) (number : ℕ) : Type 0 where
  pub place : Place
  pub there : slice_get places number ≡ Some place
  pub up : place.up ≡ Some folder
  pub named : place.name.now ≡ name

abbrev pub HasNone : List Place → (folder : ℕ) → (name : List ℕ) → Type 0
HasNone places folder name = (number : ℕ) → ¬ IsIn places folder name number

-- What is seen under a name from a folder: what has the name there, or else what is seen from the folder above.
pub data IsSeen (places : List Place) (name : List ℕ) : (folder : ℕ) → Option ℕ → Type 0 where
  here : (folder number : ℕ) → IsIn places folder name number → IsSeen places name folder (Some number)
  above : (folder up : ℕ) (found : Option ℕ) → HasNone places folder name → up_of places folder ≡ Some up
      → IsSeen places name up found → IsSeen places name folder found
  nowhere : (folder : ℕ) → HasNone places folder name → up_of places folder ≡ None → IsSeen places name folder None

-- ---- dependencies

abbrev pub is_peer_kind : Kind → Bool
is_peer_kind Kinds.Needed = false
is_peer_kind Kinds.Dev = false
is_peer_kind Kinds.Optional = false
is_peer_kind Kinds.Peer = true
is_peer_kind Kinds.OptionalPeer = true

-- a package stands in the place
abbrev pub stands_package : List Place → (number : ℕ) → Bool
stands_package places number = option_map_or (λ place. is_package place.stands) (slice_get places number) false

-- a peer of a package; those of the root and of workspaces are dependencies like others
abbrev pub is_peer : List Place → Ask → Bool
is_peer places ask = is_peer_kind ask.kind && stands_package places ask.from

-- The folder from which a dependency is looked up: a peer from the one that its package is in, any other from the package's own.
abbrev pub start_of : List Place → Ask → ℕ
start_of places ask = if is_peer places ask then unwrap_or (up_of places ask.from) ask.from else ask.from

-- what a place sees for a dependency
abbrev pub Sees : List Place → Ask → Option ℕ → Type 0
Sees places ask found = IsSeen places ask.name.now (start_of places ask) found
