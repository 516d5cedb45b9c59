-- The range is that of the sets that were read.
use Rattle.std.proofs.Common.{List, Ok, rules, subst, sym}
use Rattle.semver_cuts.specs.Ends.{Ends}
use Rattle.semver_texts.specs.Version.{VersionValue}
use Rattle.npm_semver.specs.NpmRangeAnswer.{IsNpmRangeAnswer}
use Rattle.npm_semver.proofs.range.parse_range.Goals as goal

pub returns-in-Ok : goal.returns-in-Ok
returns-in-Ok c =
    subst (λ (sets : List (Ends VersionValue)). IsNpmRangeAnswer c.args.options c.args.text.now (Ok sets))
    (sym c.of_sets-in-Ok.ensures) (search rules)
