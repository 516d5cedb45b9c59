-- No place, or the one that was seen, at which the step is.
use Rattle.std.proofs.Common.{◌≡◌, Some, arith, refl}
use Rattle.std.specs.Prelude.{slice_get}
use Rattle.std.proofs.lemmas.Grind.{common_steps}
use Rattle.std.proofs.lemmas.Option.{gets}
use Rattle.json_places.specs.Private.FirstPlaces.{nowhere, somewhere}
use Rattle.json_places.specs.Steps.{step_value}
use Rattle.json_places.proofs.settled.place_at.Goals as goal

pub returns-in_default : goal.returns-in_default
returns-in_default c = nowhere

pub returns-in_default-get : goal.returns-in_default-get
returns-in_default-get c = nowhere

pub returns-in_default-get-2 : goal.returns-in_default-get-2
returns-in_default-get-2 c = nowhere

pub returns-in_default-last_step : goal.returns-in_default-last_step
returns-in_default-last_step c = nowhere

pub returns-then-branch : goal.returns-then-branch
returns-then-branch c =
    let there : slice_get c.args.paths.now c.args.index ≡ Some c.in-Some.path.now =
    grind (arith, common_steps, gets, c.in-Some.ensures.lookup) in
    let had : slice_get c.args.seen.now c.args.index ≡ Some (Some c.in-Some-Some.place) =
    grind (arith, common_steps, gets, c.in-Some-Some.ensures.lookup, c.in-Some-Some.field-0-is) in
    somewhere c.in-Some.path.now c.in-Some-Some.place there (record {
      step = step_value c.in-Some-last_step.step;
      last = c.in-Some-last_step.ensures c.in-Some-last_step.step refl;
      there = c.in_ok-is_step_at.ensures c.if-branch.true;
      at = c.requires.each c.args.index c.in-Some-Some.place had;
    })

pub returns-else-eq : goal.returns-else-eq
returns-else-eq c = nowhere
