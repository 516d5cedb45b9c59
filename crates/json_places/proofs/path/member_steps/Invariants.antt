-- The steps so far are those to the first names.
use Rattle.std.proofs.Common.{◌≡◌, map, take}
use Rattle.json_places.specs.Steps.{member_steps, steps_seen}
use Rattle.json_places.proofs.path.member_steps.Given as goal

abbrev pub invariant-loop-name : goal.invariant-loop-name
invariant-loop-name l = steps_seen l.steps.items ≡ member_steps (map (λ name. name.now) (take l.name-index l.names))
