-- `get` reads the pointer, and takes the shared borrow of what lies there. Assumes `Logic`.
use Rattle.node_semver_c.specs.contracts.intervals.Intervals.{the_row}
use Rattle.node_semver_c.proofs.intervals.Intervals.TheLaws.{the_row_laws}
use Rattle.node_semver_c.proofs.Handles.{intervals_ref}
use Rattle.node_semver_c.proofs.Got.{get_meets}
use Rattle.node_semver_c.specs.contracts.handle.intervals.IntervalsRef.get.Key.{name as #self}
use Rattle.node_semver_c.proofs.handle.intervals.IntervalsRef.get.Statement.{statement}
use Rattle.node_semver_c.proofs.handle.intervals.IntervalsRef.get.Code as code

pub get_spec : {M : Type 1} → statement M
get_spec 𝓤 𝓛 𝓜 𝓡 wired =
    get_meets intervals_ref the_row the_row_laws.shr_laws tt (λ d. d.value) (λ d. d.life) 𝓤 𝓛 𝓜 𝓡 #self
    (code.unfolded 𝓤 𝓛.H 𝓜 𝓡 wired)
