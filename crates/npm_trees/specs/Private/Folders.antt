-- The index of places by folder and name, and the one thing that is seen.
use Rattle.std.specs.Prelude.{◌≡◌, ◌<◌, ◌↔◌, ℕ, List, Option, Some}
use Rattle.std.specs.BTreeMap.{BTreeMap, get_by}
use Rattle.std.specs.Cmp.Lexicographic.{slice_cmp}
use Rattle.std.specs.Ordering.{nat_cmp, ordering_then}
use denote.Ref.{Bor}
use Rattle.npm_trees.specs.Places.{IsIn, IsSeen, up_of}
use Rattle.npm_trees.specs.Whole.{IsWhole}
use Rattle.npm_trees.specs.declared.tree.Ask.{Ask}
use Rattle.npm_trees.specs.declared.tree.Document.{Document}
use Rattle.npm_trees.specs.declared.tree.Place.{Place}

-- each place is after that in whose folder it is
abbrev pub AreUpward : List Place → Type 0
AreUpward places = (number up : ℕ) → up_of places number ≡ Some up → up < number

abbrev pub Map : Type 0
Map = BTreeMap (ℕ × Bor (List ℕ)) ℕ

-- what the map has for a name in a folder
abbrev pub at_name : Map → (folder : ℕ) → (name : List ℕ) → Option ℕ
at_name map folder name = get_by (λ k. ordering_then (nat_cmp folder k.0) (slice_cmp nat_cmp name k.1.now)) map

-- it has what has the name in the folder
abbrev pub IsIndexOf : List Place → Map → Type 0
IsIndexOf places map = (folder : ℕ) (name : List ℕ) (number : ℕ) → (at_name map folder name ≡ Some number) ↔ IsIn places folder name number

-- no two places have one name in a folder
abbrev pub AreDistinct : List Place → Type 0
AreDistinct places = (folder : ℕ) (name : List ℕ) (one other : ℕ) → IsIn places folder name one → IsIn places folder name other
    → one ≡ other

-- this is seen, and nothing else
pub record IsOnlySeen (places : List Place) (name : List ℕ) (folder : ℕ) (found : Option ℕ) : Type 0 where
  pub seen : IsSeen places name folder found
  pub only : (other : Option ℕ) → IsSeen places name folder other → other ≡ found

-- the tree is whole, and this is its index
pub record IsWholeBy (places : List Place) (documents : List Document) (asks : List Ask) (map : Map) : Type 0 where
  pub whole : IsWhole places documents asks
  pub index : IsIndexOf places map
