-- `get` reads the pointer, and takes the shared borrow of what lies there. Assumes `Logic`.
use Rattle.semver_versions.specs.contracts.version.Version.{the_row}
use Rattle.semver_versions.proofs.version.Version.TheLaws.{the_row_laws}
use Rattle.node_semver_c.proofs.Handles.{version_ref}
use Rattle.node_semver_c.proofs.Got.{get_meets}
use Rattle.node_semver_c.specs.contracts.handle.version.VersionRef.get.Key.{name as #self}
use Rattle.node_semver_c.proofs.handle.version.VersionRef.get.Statement.{statement}
use Rattle.node_semver_c.proofs.handle.version.VersionRef.get.Code as code

pub get_spec : {M : Type 1} → statement M
get_spec 𝓤 𝓛 𝓜 𝓡 wired =
    get_meets version_ref the_row the_row_laws.shr_laws tt (λ d. d.value) (λ d. d.life) 𝓤 𝓛 𝓜 𝓡 #self
    (code.unfolded 𝓤 𝓛.H 𝓜 𝓡 wired)
