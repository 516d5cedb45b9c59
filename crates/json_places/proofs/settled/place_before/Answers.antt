-- No place, or that of the path before.
use Rattle.std.proofs.Common.{◌≡◌, ◌-◌, Some, arith}
use Rattle.std.specs.Prelude.{slice_get}
use Rattle.std.proofs.lemmas.Grind.{common_steps}
use Rattle.std.proofs.lemmas.Option.{gets}
use Rattle.json_places.specs.Private.FirstPlaces.{nowhere}
use Rattle.json_places.proofs.Found.{as_before}
use Rattle.json_places.proofs.settled.place_before.Goals as goal

pub returns-then-index-eq0 : goal.returns-then-index-eq0
returns-then-index-eq0 c = nowhere

pub returns-in-Some-Some : goal.returns-in-Some-Some
returns-in-Some-Some c =
    let had : slice_get c.args.found.now (c.args.index - 1) ≡ Some (Some c.in-Some-Some.place) =
    grind (arith, common_steps, gets, c.in-Some-Some.ensures.lookup, c.in-Some-Some.field-0-is) in
    as_before c.args._text.now c.args.paths.now c.args.index (c.args.index - 1) c.args.found.now c.in-Some-Some.place c.requires
    (c.have_same_last.ensures c.if-not-have_same_last.false) had

pub returns-in_default : goal.returns-in_default
returns-in_default c = nowhere
