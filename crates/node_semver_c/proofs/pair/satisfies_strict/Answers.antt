use Rattle.std.proofs.Common.{refl}
use Rattle.node_semver_c.specs.Pair.{no_version, strict}
use Rattle.node_semver_c.proofs.pair.satisfies_strict.Goals as goal

pub returns-in-Ok-clause-reported : goal.returns-in-Ok-clause-reported
returns-in-Ok-clause-reported g c = strict c.in-Ok.version c.in-Ok.ensures.found refl c.satisfies.ensures

pub returns-in-Err-clause-reported : goal.returns-in-Err-clause-reported
returns-in-Err-clause-reported g c = no_version (λ v is. c.in-Err.ensures.only v is) refl
