use Rattle.std.proofs.Common.{List, subst, ℕ}
use Rattle.npm_semver.specs.Coerce.{IsChosen}
use Rattle.npm_semver.specs.Private.PieceViews.{numbers_of}
use Rattle.npm_semver.proofs.Versions.ChosenPieces.{not_coerced}
use Rattle.npm_semver.proofs.coercion.coerce.Goals as goal

pub returns-in-Some-clause-none : goal.returns-in-Some-clause-none
returns-in-Some-clause-none c =
    let chosen = c.in-Some.ensures.some in
    not_coerced c.args.options.rtl c.args.text.now chosen.0 chosen.1 (numbers_of c.in-Some.piece) c.release.result
    (subst (λ (l : List ℕ). IsChosen c.args.options.rtl l chosen.0 chosen.1 (numbers_of c.in-Some.piece))
    c.as_bytes.ensures.value chosen.2) c.release.ensures.none
