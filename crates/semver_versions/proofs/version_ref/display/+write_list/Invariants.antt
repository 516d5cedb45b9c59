use Rattle.std.proofs.Common.{length}
use Rattle.semver_versions.proofs.version_ref.display.+write_list.Given as goal

abbrev pub decreases-write_list : goal.decreases-write_list
decreases-write_list g l = length l.text.now
