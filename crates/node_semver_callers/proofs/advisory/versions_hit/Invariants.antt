-- The hits so far are those of the versions so far.
use Rattle.std.proofs.Common.{map, take}
use Rattle.node_semver_callers.specs.Hits.{AreHits}
use Rattle.node_semver_callers.proofs.advisory.versions_hit.Given as goal

abbrev pub invariant-loop-version : goal.invariant-loop-version
invariant-loop-version l = AreHits l.fn.advisory (take l.version-index l.installed) (map (λ v. v.now) l.hits.items)
