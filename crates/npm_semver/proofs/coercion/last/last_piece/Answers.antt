use Rattle.npm_semver.proofs.Versions.ChosenPieces.{last_found}
use Rattle.npm_semver.proofs.Versions.Pieces.{last_of}
use Rattle.npm_semver.proofs.coercion.last.last_piece.Goals as goal

pub returns-in-Some-clause-some : goal.returns-in-Some-clause-some
returns-in-Some-clause-some c =
    last_found c.args.text.now c.in-Some.start c.in-Some.end _ c.in-Some.ensures.some c.piece_to.ensures

pub returns-in-None-clause-none : goal.returns-in-None-clause-none
returns-in-None-clause-none c = λ start end numbers h.
    let last = last_of c.args.text.now start end numbers h in
    c.in-None.ensures.none last.0 end last.1
