use Rattle.std.proofs.Common.{◌∙◌, ap}
use Rattle.node_semver_c.specs.Compared.{range_hash}
use Rattle.node_semver_c.proofs.Alike.{range_hash-alike}
use Rattle.node_semver_c.proofs.range.node_semver_range_hash.Goals as goal

pub returns-clause-alike : goal.returns-clause-alike
returns-clause-alike c other same =
    c.hash_of.ensures ∙ ap range_hash c.get.ensures ∙ range_hash-alike c.args.range.now.value other same
