use Rattle.semver_versions.proofs.Versions.VersionParse.{large-refused}
use Rattle.semver_versions.proofs.version_ref.fault.large_at.Goals as goal

pub large_kind-requires : goal.large_kind-requires
large_kind-requires c = large-refused c.args.text.now c.args.left c.requires
