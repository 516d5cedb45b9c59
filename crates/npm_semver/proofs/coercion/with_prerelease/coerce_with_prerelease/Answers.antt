use Rattle.std.proofs.Common.{List, subst, ℕ}
use Rattle.std.specs.Prelude.{IfNone, IfOk}
use Rattle.npm_semver.specs.CoerceWithPrerelease.{IsCoercedWithPrerelease}
use Rattle.npm_semver.specs.Private.ExtraViews.{ends_of}
use Rattle.npm_semver.specs.Private.PieceViews.{numbers_of}
use Rattle.semver_texts.specs.Version.{VersionValue}
use Rattle.npm_semver.proofs.Versions.ChosenFull.{answer_none}
use Rattle.npm_semver.proofs.coercion.with_prerelease.coerce_with_prerelease.Goals as goal

pub returns-in-Some-clause-none : goal.returns-in-Some-clause-none
returns-in-Some-clause-none c =
    let piece = c.in-Some.piece in
    subst (λ (l : List ℕ). IfOk c.version_of.result (λ r. IfNone r ((v : VersionValue)
    → ¬ IsCoercedWithPrerelease c.args.options.rtl l v))) c.as_bytes-bytes.ensures.value
    (answer_none c.args.options.rtl c.as_bytes-bytes.result.now piece.start (ends_of piece) (numbers_of piece.piece)
    c.version_of.result c.in-Some.ensures.some c.version_of.ensures.none)
