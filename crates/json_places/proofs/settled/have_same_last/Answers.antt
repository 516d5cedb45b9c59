-- Both have the last step of the first one.
use Rattle.std.proofs.Common.{◌≡◌, ◌∙◌, Some, ap, arith, refl, sym}
use Rattle.std.specs.Prelude.{slice_get}
use Rattle.std.proofs.lemmas.Grind.{common_steps}
use Rattle.std.proofs.lemmas.Option.{gets}
use Rattle.json_places.specs.Steps.{step_value}
use Rattle.json_places.proofs.settled.have_same_last.Goals as goal

pub returns-in-Some-last_step-2 : goal.returns-in-Some-last_step-2
returns-in-Some-last_step-2 c = λ same.
    let there : slice_get c.args.paths.now c.args.one ≡ Some c.in-Some.one.now =
    grind (arith, common_steps, gets, c.in-Some.ensures.lookup) in
    let here : slice_get c.args.paths.now c.args.other ≡ Some c.in-Some-get.other.now =
    grind (arith, common_steps, gets, c.in-Some-get.ensures.lookup) in
    record {
      first = c.in-Some.one.now;
      second = c.in-Some-get.other.now;
      there = there;
      here = here;
      step = step_value c.in-Some-last_step.step;
      first_last = c.in-Some-last_step.ensures c.in-Some-last_step.step refl;
      second_last = c.in-Some-last_step-2.ensures c.in-Some-last_step-2.other refl ∙ ap Some (sym (c.is_same_step.ensures same));
    }
