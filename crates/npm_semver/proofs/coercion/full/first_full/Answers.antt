use Rattle.std.proofs.Common.{arith}
use Rattle.npm_semver.proofs.Versions.FullPieces.{first_none, first_some}
use Rattle.npm_semver.proofs.Versions.Pieces.{first_of}
use Rattle.npm_semver.proofs.coercion.full.first_full.Goals as goal

pub returns-in-Some-clause-some : goal.returns-in-Some-clause-some
returns-in-Some-clause-some c =
    first_some c.args.text.now c.in-Some.start c.in-Some.first c.full_from.result c.in-Some.ensures.some
    c.full_from.ensures.full c.full_from.ensures.start

pub returns-in-Some-clause-none : goal.returns-in-Some-clause-none
returns-in-Some-clause-none c = grind (arith, first_none)

pub returns-in-None-clause-none : goal.returns-in-None-clause-none
returns-in-None-clause-none c = λ start ends numbers h.
    let there = first_of c.args.text.now start ends.numbers numbers h.full.piece in
    absurd (c.in-None.ensures.none start there.0 (omega arith) there.1)
