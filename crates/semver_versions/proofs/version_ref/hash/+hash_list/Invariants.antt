use Rattle.std.proofs.Common.{length}
use Rattle.semver_versions.proofs.version_ref.hash.+hash_list.Given as goal

abbrev pub decreases-hash_list : goal.decreases-hash_list
decreases-hash_list g l = length l.text.now
