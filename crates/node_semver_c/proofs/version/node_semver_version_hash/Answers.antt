use Rattle.std.proofs.Common.{◌∙◌, ap}
use Rattle.node_semver_c.specs.Compared.{version_hash}
use Rattle.node_semver_c.proofs.Alike.{version_hash-alike}
use Rattle.node_semver_c.proofs.version.node_semver_version_hash.Goals as goal

pub returns-clause-alike : goal.returns-clause-alike
returns-clause-alike c other same =
    c.hash_of.ensures ∙ ap version_hash c.get.ensures ∙ version_hash-alike c.args.version.now.value other same
