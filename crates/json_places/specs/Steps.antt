-- The steps of paths in a JSON text.
use Rattle.std.specs.Prelude.{◌-◌, ℕ, List, Option, length, map, slice_get}
use Rattle.json_places.specs.declared.path.Step.{Step}
use Rattle.json_places.specs.declared.path.Step.TheVariants.{Item, Member}

-- a step to the member of this name, of an object, or to the item at this position of a list, counted from 0
pub data StepValue : Type 0 where
  to_member : (name : List ℕ) → StepValue
  to_item : (position : ℕ) → StepValue

-- what a contract sees of a step
abbrev pub step_value : Step → StepValue
step_value (Member name) = to_member name.now
step_value (Item position) = to_item position

-- what a contract sees of the steps of a path
abbrev pub steps_seen : List Step → List StepValue
steps_seen steps = map step_value steps

-- the steps to members with these names, each inside the one before
abbrev pub member_steps : (names : List (List ℕ)) → List StepValue
member_steps names = map to_member names

-- the last step of a path, if it has one
abbrev pub last_step : (steps : List StepValue) → Option StepValue
last_step steps = slice_get steps (length steps - 1)
