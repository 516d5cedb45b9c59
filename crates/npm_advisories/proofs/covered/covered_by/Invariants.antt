-- The spans so far have the releases of the sets so far.
use Rattle.std.proofs.Common.{take}
use Rattle.node_semver.specs.Ranges.{RangeContains}
use Rattle.npm_advisories.specs.Private.Covering.{HaveReleases}
use Rattle.npm_advisories.proofs.covered.covered_by.Given as goal

abbrev pub invariant-loop-set : goal.invariant-loop-set
invariant-loop-set l = HaveReleases l.spans.items (RangeContains (take l.set-index l.sets))
