-- Each half has fewer advisories.
use Rattle.std.proofs.Common.{length}
use Rattle.npm_advisories.proofs.halves.Halves.+of.Given as goal

abbrev pub decreases-of : goal.decreases-of
decreases-of l = length l.advisories.now
