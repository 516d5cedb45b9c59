-- Places that are reached, in the order in which they were found, and the ways from each place.
use Rattle.std.specs.Prelude.{◌≡◌, ◌<◌, ◌↔◌, ◌⊎◌, ◌++◌, ℕ, List, Contains, IsSomeAnd, Option, Some, Vec, false, slice_get, true}
use Rattle.std.specs.BTreeSet.{contains_by}
use Rattle.std.specs.Ordering.{nat_cmp}
use Rattle.std.specs.declared.alloc.Global.{Global}
use Rattle.npm_trees.specs.Places.{Sees, up_of}
use Rattle.npm_trees.specs.Reaching.{AsksFor, IsReached, IsTop, Leads, link_of}
use Rattle.npm_trees.specs.declared.tree.Ask.{Ask}
use Rattle.npm_trees.specs.declared.tree.Document.{Document}
use Rattle.npm_trees.specs.declared.tree.Place.{Place}
use Rattle.npm_trees.specs.declared.found.Found.{Found}

-- the place was found
abbrev pub Has : Found → ℕ → Type 0
Has reached number = Contains reached.order.items number

-- those that are marked were found
abbrev pub AreMarked : Found → Type 0
AreMarked reached = (number : ℕ) → (contains_by (nat_cmp number) reached.marked ≡ true) ↔ Has reached number

-- these places were found, and none others more, in the end of the order
pub record AreAdded (Numbers : ℕ → Type 0) (old new : Found) : Type 0 where
  pub marked : AreMarked new
  pub rest : List ℕ
  pub kept : new.order.items ≡ old.order.items ++ rest
  pub all : (number : ℕ) → Numbers number → Has new number
  pub only : (number : ℕ) → Has new number → Has old number ⊎ Numbers number

-- there is a way from a place to another
abbrev pub HasWay : List (Vec ℕ Global) → (number to : ℕ) → Type 0
HasWay ways number to = IsSomeAnd (slice_get ways number) (λ list. Contains list.items to)

-- a dependency leads to a place
pub record IsWanted (places : List Place) (documents : List Document) (ask : Ask) (to : ℕ) : Type 0 where
  pub unbundled : ask.bundled ≡ false
  pub seen : Sees places ask (Some to)
  pub asks_for : AsksFor places documents ask to

-- one of them leads from a place to another
pub record IsWay (places : List Place) (documents : List Document) (asks : List Ask) (number to : ℕ) : Type 0 where
  pub ask : Ask
  pub there : Contains asks ask
  pub from : ask.from ≡ number
  pub wanted : IsWanted places documents ask to

-- there was a way, or it is this one
abbrev pub IsTold : (from : ℕ) → (to : Option ℕ) → List (Vec ℕ Global) → (number other : ℕ) → Type 0
IsTold from to ways number other = HasWay ways number other ⊎ ((from ≡ number) × (to ≡ Some other))

-- what a place leads to, by these ways
abbrev pub IsNext : List Place → List (Vec ℕ Global) → (number to : ℕ) → Type 0
IsNext places ways number to = ((up_of places number ≡ Some to) ⊎ (link_of places number ≡ Some to)) ⊎ HasWay ways number to

-- the ways are those of the dependencies
abbrev pub AreWays : List Place → List Document → List Ask → List (Vec ℕ Global) → Type 0
AreWays places documents asks ways = (number to : ℕ) → HasWay ways number to ↔ IsWay places documents asks number to

-- The first ones so far lead to nothing else. All are reached, and the root and the workspaces are there.
pub record AreHeld (places : List Place) (documents : List Document) (asks : List Ask) (bound : ℕ) (reached : Found) : Type 0 where
  pub marked : AreMarked reached
  pub sound : (number : ℕ) → Has reached number → IsReached places documents asks number
  pub tops : (number : ℕ) → IsTop places number → Has reached number
  pub closed : (k number to : ℕ) → k < bound → slice_get reached.order.items k ≡ Some number → Leads places documents asks number to
      → Has reached to
