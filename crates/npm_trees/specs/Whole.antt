-- Which trees are whole: each place holds what it may, in the folder of a place before it.
use Rattle.std.specs.Prelude.{◌≡◌, ◌<◌, ◌==◌, ◌&&◌, not, ℕ, List, Bool, Option, All, IsSome, MatchOption, codes, false, length}
use Rattle.std.specs.Prelude.{option_and_then, option_map, Some, slice_get, true}
use Rattle.std.specs.Option.{option_map_or}
use Rattle.serde_json.specs.Data.{Data}
use Rattle.serde_json.specs.Find.{get}
use Rattle.serde_json.specs.View.{view}
use Rattle.npm_trees.specs.Places.{IsIn, is_package, is_top, up_of}
use Rattle.npm_trees.specs.declared.tree.Ask.{Ask}
use Rattle.npm_trees.specs.declared.tree.Document.{Document}
use Rattle.npm_trees.specs.declared.tree.Place.{Place}
use Rattle.npm_trees.specs.declared.tree.Stands.{Stands}
use Rattle.npm_trees.specs.declared.tree.Stands.TheVariants.{Link, Package, Top}

-- ---- folders

abbrev pub is_link : Stands → Bool
is_link (Top at manifest) = false
is_link (Package document version) = false
is_link (Link to) = true

-- a place that has a folder: it is there, and no link
abbrev pub has_folder : List Place → (number : ℕ) → Bool
has_folder places number = option_map_or (λ place. not (is_link place.stands)) (slice_get places number) false

-- The root is the first place, and it alone is in no folder. Any other place is in the folder of one before it.
abbrev pub IsInFolder : List Place → (number : ℕ) → Place → Type 0
IsInFolder places number place = MatchOption place.up ((number ≡ 0) × (is_top place.stands ≡ true))
    (λ up. (up < number) × (has_folder places up ≡ true))

-- ---- what stands there

-- The manifest of a package: the member of `versions` in its document.
abbrev pub manifest_in : List Document → (document : ℕ) → (version : List ℕ) → Option Data
manifest_in documents document version = option_and_then (get version) (option_and_then (get (codes "versions"))
    (option_map (λ found. view found.value.now) (slice_get documents document)))

-- a place is above another: that in whose folder it is, or one above that
pub data IsAbove (places : List Place) : (number above : ℕ) → Type 0 where
  next : (number up : ℕ) → up_of places number ≡ Some up → IsAbove places number up
  further : (number up above : ℕ) → up_of places number ≡ Some up → IsAbove places up above → IsAbove places number above

-- a package for which these rules count
abbrev pub has_package : List Place → (number rules : ℕ) → Bool
has_package places number rules =
    option_map_or (λ place. is_package place.stands && (place.rules == rules)) (slice_get places number) false

-- What may stand in a place: the root and workspaces in the root's folder, a version that the document has, and a link to a package above
-- for which the same rules count.
abbrev pub MayStand : List Place → List Document → (number : ℕ) → Place → Stands → Type 0
MayStand places documents number place (Top at manifest) = MatchOption place.up (Unit {0}) (λ up. up ≡ 0)
MayStand places documents number place (Package document version) = IsSome (manifest_in documents document version.now)
MayStand places documents number place (Link to) = IsAbove places number to × (has_package places to place.rules ≡ true)

-- ---- the tree

-- There is a root, each place is as above, no two have one name in a folder, and only places ask.
pub record IsWhole (places : List Place) (documents : List Document) (asks : List Ask) : Type 0 where
  pub root : 0 < length places
  pub folders : (number : ℕ) (place : Place) → slice_get places number ≡ Some place → IsInFolder places number place
  pub contents : (number : ℕ) (place : Place) → slice_get places number ≡ Some place
      → MayStand places documents number place place.stands
  pub distinct : (folder : ℕ) (name : List ℕ) (one other : ℕ) → IsIn places folder name one → IsIn places folder name other
      → one ≡ other
  pub askers : All (λ (ask : Ask). ask.from < length places) asks
