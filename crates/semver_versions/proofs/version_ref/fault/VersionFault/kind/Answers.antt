use Rattle.semver_texts.specs.Reading.{prefix_of}
use Rattle.semver_versions.proofs.version_ref.fault.VersionFault.kind.Goals as goal

pub returns-in-Overflow : goal.returns-in-Overflow
unfolding prefix_of
returns-in-Overflow c = rw c.in-Overflow.is c.large_kind.ensures
