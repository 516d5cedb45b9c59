use Rattle.std.proofs.Common.{take}
use Rattle.node_semver.specs.AllOf.{AllAdmit}
use Rattle.node_semver.proofs.range.all_of.AllOf.satisfies.Given as goal

abbrev pub invariant-each : goal.invariant-each
invariant-each g l = AllAdmit g.A.Admits.admits (take l.range-index l.ranges) (g.V.AsVersion.seen l.version)
