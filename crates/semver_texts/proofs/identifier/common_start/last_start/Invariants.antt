use Rattle.std.proofs.Common.{◌≤◌, length}
use Rattle.semver_texts.proofs.identifier.common_start.last_start.Given as goal

abbrev pub invariant-back : goal.invariant-back
invariant-back l = l.start ≤ length l.text

abbrev pub decreases-back : goal.decreases-back
decreases-back l = l.start
