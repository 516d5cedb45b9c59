use Rattle.npm_semver.specs.declared.coercion.extras.Extra.TheVariants.{Build, Prerelease}
use Rattle.npm_semver.proofs.Versions.FullPieces.{longest_from}
use Rattle.npm_semver.proofs.Versions.ListedSlices.{listed_after}
use Rattle.npm_semver.proofs.coercion.with_prerelease.version_of.Goals as goal

pub identifiers-requires-clause-from : goal.identifiers-requires-clause-from
identifiers-requires-clause-from c =
    longest_from Prerelease c.args.text.now c.args.full.numbers_end c.args.full.prerelease_end
    c.requires.full.prerelease

pub identifiers-requires-clause-listed : goal.identifiers-requires-clause-listed
identifiers-requires-clause-listed c =
    listed_after Prerelease c.args.text.now c.args.full.numbers_end c.args.full.prerelease_end
    c.requires.full.prerelease

pub identifiers-requires-2-clause-from : goal.identifiers-requires-2-clause-from
identifiers-requires-2-clause-from c =
    longest_from Build c.args.text.now c.args.full.prerelease_end c.args.full.end c.requires.full.build

pub identifiers-requires-2-clause-listed : goal.identifiers-requires-2-clause-listed
identifiers-requires-2-clause-listed c =
    listed_after Build c.args.text.now c.args.full.prerelease_end c.args.full.end c.requires.full.build
