-- The places of the first paths of a list.
use Rattle.std.specs.Prelude.{◌≡◌, ℕ, List, None, Option, Some, length, slice_get}
use Rattle.json_places.specs.Places.{IsPlaceOf}
use Rattle.json_places.specs.Steps.{StepValue, last_step, steps_seen}
use Rattle.json_places.specs.declared.path.Path.{Path}
use Rattle.json_places.specs.declared.place.Place.{Place}

-- the place of the path at an index, or that none was found
pub data IsPlaceOfPath (text : List ℕ) (paths : List Path) (index : ℕ) : Option Place → Type 0 where
  nowhere : IsPlaceOfPath text paths index None
  somewhere : (path : Path) (place : Place) → slice_get paths index ≡ Some path
      → IsPlaceOf text (steps_seen path.steps.items) place → IsPlaceOfPath text paths index (Some place)

-- one for each of the first paths, so many
pub record ArePlacesOfFirst (text : List ℕ) (paths : List Path) (count : ℕ) (found : List (Option Place)) : Type 0 where
  pub one_for_each : length found ≡ count
  pub each : (k : ℕ) (place : Option Place) → slice_get found k ≡ Some place → IsPlaceOfPath text paths k place

-- the paths at two indexes have this last step
pub record HaveSameLast (paths : List Path) (one other : ℕ) : Type 0 where
  pub first : Path
  pub second : Path
  pub there : slice_get paths one ≡ Some first
  pub here : slice_get paths other ≡ Some second
  pub step : StepValue
  pub first_last : last_step (steps_seen first.steps.items) ≡ Some step
  pub second_last : last_step (steps_seen second.steps.items) ≡ Some step
