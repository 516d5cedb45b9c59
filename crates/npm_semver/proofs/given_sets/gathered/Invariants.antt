use Rattle.std.proofs.Common.{◌≡◌, take}
use Rattle.npm_semver.proofs.given_sets.gathered.Given as goal

abbrev pub invariant-spans : goal.invariant-spans
invariant-spans l = l.sets ≡ take l.span-index l.spans
