use Rattle.std.proofs.Common.{arith}
use Rattle.npm_semver.proofs.Versions.ChosenPieces.{first_found}
use Rattle.npm_semver.proofs.Versions.Pieces.{first_of}
use Rattle.npm_semver.proofs.coercion.first.first_piece.Goals as goal

pub returns-in-Some-clause-some : goal.returns-in-Some-clause-some
returns-in-Some-clause-some c = grind (arith, first_found)

pub returns-in-None-clause-none : goal.returns-in-None-clause-none
returns-in-None-clause-none c = λ start end numbers h.
    let first = first_of c.args.text.now start end numbers h in
    c.in-None.ensures.none start first.0 (omega arith) first.1
