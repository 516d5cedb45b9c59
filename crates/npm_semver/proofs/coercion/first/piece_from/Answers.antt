use native.Mathlib.Omega.{arith}
use Rattle.npm_semver.proofs.Versions.Pieces.{one_from, three_from, two_from}
use Rattle.npm_semver.proofs.coercion.first.piece_from.Goals as goal

pub returns-in_default-clause-longest : goal.returns-in_default-clause-longest
returns-in_default-clause-longest c = grind (arith, one_from)

pub returns-in-None-clause-longest : goal.returns-in-None-clause-longest
returns-in-None-clause-longest c =
    let second = c.in-Some.ensures.some in
    two_from c.args.text.now c.args.start c.args.first c.in-Some.second c.requires second.0 second.1
    c.in-None.ensures.none

pub returns-in-Some-next_number-clause-longest : goal.returns-in-Some-next_number-clause-longest
returns-in-Some-next_number-clause-longest c =
    let second = c.in-Some.ensures.some in
    let third = c.in-Some-next_number.ensures.some in
    three_from c.args.text.now c.args.start c.args.first c.in-Some.second c.in-Some-next_number.third c.requires
    second.0 second.1 third.0 third.1
