use Rattle.std.proofs.Common.{arith}
use Rattle.semver_versions.specs.Fault.{too_long}
use Rattle.semver_versions.proofs.Versions.VersionParse.{triple-fault}
use Rattle.semver_versions.proofs.version_ref.read.read_numbers.Goals as goal

pub returns-then-text-gt-MAX_LENGTH-clause-fault : goal.returns-then-text-gt-MAX_LENGTH-clause-fault
returns-then-text-gt-MAX_LENGTH-clause-fault c =
    let long = c.if-text-gt-MAX_LENGTH.true in
    record { within = omega arith; fault = too_long long }

pub returns-clause-fault : goal.returns-clause-fault
returns-clause-fault c =
    triple-fault c.args.text.now c.read_marked_triple.result c.if-text-gt-MAX_LENGTH.false c.read_marked_triple.ensures
