-- What a search holds between two tokens.
use Rattle.std.specs.Prelude.{◌≡◌, ℕ, List, Option, Some, slice_get}
use Rattle.json_places.specs.Places.{IsPlace}
use Rattle.json_places.specs.declared.place.Place.{Place}
use Rattle.json_places.specs.declared.search.Search.{Search}

-- each of these is a place of the text
pub record AreSeen (text : List ℕ) (seen : List (Option Place)) : Type 0 where
  pub each : (k : ℕ) (place : Place) → slice_get seen k ≡ Some (Some place) → IsPlace text place

pub record IsSearch (text : List ℕ) (search : Search) : Type 0 where
  pub places : AreSeen text search.seen.items
  pub at : IsPlace text search.last
