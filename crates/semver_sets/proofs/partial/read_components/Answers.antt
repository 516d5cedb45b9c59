use Rattle.std.proofs.Common.{◌<◌, ◌≢◌, arith, get_or, length, rules}
use borrow.Author.Tests.{ltb-true}
use Rattle.semver_sets.proofs.Words.PartialViews.{behind-first, major-alone, major-and-minor, no-dot}
use Rattle.semver_sets.proofs.partial.read_components.Goals as goal
use Rattle.semver_sets.proofs.partial.read_components.Goals.{in_default-via-then-rest-lt1}
use Rattle.semver_sets.proofs.partial.read_components.Goals.{in_default-via-else-rest-lt1+in_default-1}
use Rattle.semver_sets.proofs.partial.read_components.Goals.{in_default-rest-via-then-rest-lt1-2}
use Rattle.semver_sets.proofs.partial.read_components.Goals.{in_default-rest-via-else-rest-lt1-2+in_default-1}

pub returns-in_default-clause-read : goal.returns-in_default-clause-read
returns-in_default-clause-read c =
    let rest = c.in_ok-major.rest.now in
    let other : 0 < length rest → get_or rest 0 0 ≢ 46 = λ some. elim c.in_default.branch [
      | in_default-via-then-rest-lt1 w ↦ absurd (omega (arith, ltb-true))
      | in_default-via-else-rest-lt1+in_default-1 w ↦ search rules
    ] in
    major-alone c.args.text.now rest _ _ c.in_ok-major.ensures.read (no-dot rest other) c.partial_of.ensures.seen

pub returns-in_default-rest-clause-read : goal.returns-in_default-rest-clause-read
returns-in_default-rest-clause-read c =
    let behind = c.in_ok-major.rest.now in
    let rest = c.in_ok-minor.rest.now in
    let other : 0 < length rest → get_or rest 0 0 ≢ 46 = λ some. elim c.in_default-rest.branch [
      | in_default-rest-via-then-rest-lt1-2 w ↦ absurd (omega (arith, ltb-true))
      | in_default-rest-via-else-rest-lt1-2+in_default-1 w ↦ search rules
    ] in
    major-and-minor c.args.text.now behind _ rest _ _ _ c.in_ok-major.ensures.read
    (behind-first 46 behind c.in-46.len_at_least (omega arith)) c.in_ok-minor.ensures.read (no-dot rest other)
    c.partial_of-in_default-rest.ensures.seen
