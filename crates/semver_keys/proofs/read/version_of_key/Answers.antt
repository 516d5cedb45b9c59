use Rattle.std.proofs.Common.{ap, arith}
use Rattle.semver_texts.specs.Identifier.{values_of}
use Rattle.semver_keys.proofs.VersionReading.{after-triple, no-prerelease, no-triple, version-read}
use Rattle.semver_keys.proofs.read.version_of_key.Goals as goal

pub returns-in_default-clause-none : goal.returns-in_default-clause-none
returns-in_default-clause-none c = no-triple _ c.in_default.ensures.none

pub returns-in-None-clause-none : goal.returns-in-None-clause-none
returns-in-None-clause-none c =
    no-prerelease _ _ _ c.in-Some.ensures.read (rw c.in-None.is at c.in_ok-read_prerelease.ensures.none)

pub returns-in-Some-2-clause-version : goal.returns-in-Some-2-clause-version
returns-in-Some-2-clause-version c = version-read _ c.in-Some.triple _ _ _ c.in-Some.ensures.read
    (rw c.in-Some-2.is at c.in_ok-read_prerelease.ensures.read) (ap values_of c.new.ensures.items)

pub returns-in_err-read_prerelease-clause-release : goal.returns-in_err-read_prerelease-clause-release
returns-in_err-read_prerelease-clause-release c is =
    grind (arith, c.in_err-read_prerelease.is, c.read_prerelease.ensures.release (after-triple _ _ _ c.in-Some.ensures.read is))
