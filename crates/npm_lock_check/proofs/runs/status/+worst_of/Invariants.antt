-- Each step leaves fewer lock files.
use Rattle.std.proofs.Common.{length}
use Rattle.npm_lock_check.proofs.runs.status.+worst_of.Given as goal

abbrev pub decreases-worst_of : goal.decreases-worst_of
decreases-worst_of l = length l.outcomes.now
