-- The beginning of the text, or the place of the subject's own path.
use Rattle.std.proofs.Common.{◌≡◌, Some, arith}
use Rattle.std.specs.Prelude.{slice_get}
use Rattle.std.proofs.lemmas.Grind.{common_steps}
use Rattle.std.proofs.lemmas.Option.{gets}
use Rattle.json_places.specs.Places.{none, of_path}
use Rattle.json_places.proofs.choice.place_at.Goals as goal

pub returns-in_default : goal.returns-in_default
returns-in_default c = none

pub returns-in_default-get : goal.returns-in_default-get
returns-in_default-get c = none

pub returns-in_default-get-2 : goal.returns-in_default-get-2
returns-in_default-get-2 c = none

pub returns-then-path-subject : goal.returns-then-path-subject
returns-then-path-subject c =
    let there : slice_get c.args.paths.now c.in-Some.index ≡ Some c.in-Some-get.path.now =
    grind (arith, common_steps, gets, c.in-Some-get.ensures.lookup) in
    let had : slice_get c.args.found.now c.in-Some.index ≡ Some (Some c.in-Some-Some.place) =
    grind (arith, common_steps, gets, c.in-Some-Some.ensures.lookup, c.in-Some-Some.field-0-is) in
    of_path c.in-Some.index c.in-Some-get.path.now c.in-Some-Some.place there c.if-path-subject.true
    (c.requires.each c.in-Some.index c.in-Some-get.path.now c.in-Some-Some.place there had)

pub returns-else-path-subject : goal.returns-else-path-subject
returns-else-path-subject c = none
