use Rattle.std.proofs.Common.{refl}
use Rattle.node_semver_c.specs.Pair.{answered, refused}
use Rattle.node_semver_c.proofs.pair.satisfies_range.Goals as goal

pub returns-in-Ok-clause-reported : goal.returns-in-Ok-clause-reported
returns-in-Ok-clause-reported c = answered c.in-Ok.version c.in-Ok.ensures.found refl c.satisfies.ensures

pub returns-in-Err-clause-reported : goal.returns-in-Err-clause-reported
returns-in-Err-clause-reported c =
    refused _ _ c.in-Err.ensures.fault (rw c.kind.ensures at (rw c.offset.ensures at c.report_at.ensures.reported))
