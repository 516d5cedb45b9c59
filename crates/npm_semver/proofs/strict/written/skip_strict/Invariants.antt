use Rattle.std.proofs.Common.{length}
use Rattle.npm_semver.proofs.Versions.StrictParts.{IsReached}
use Rattle.npm_semver.proofs.strict.written.skip_strict.Given as goal

abbrev pub invariant-parts : goal.invariant-parts
invariant-parts l = IsReached l.part l.text l.rest

abbrev pub decreases-parts : goal.decreases-parts
decreases-parts l = length l.rest
