-- `of` keeps the pointer, and the right to free what lies there. Assumes `Logic`.
use Rattle.std.proofs.Common.{refl}
use Rattle.node_semver_c.specs.contracts.intervals.Intervals.{the_row}
use Rattle.node_semver_c.proofs.Handles.{intervals_handle}
use Rattle.node_semver_c.proofs.Kept.{of_meets}
use Rattle.node_semver_c.specs.contracts.handle.intervals.IntervalsHandle.of.Key.{name as #self}
use Rattle.node_semver_c.proofs.handle.intervals.IntervalsHandle.of.Statement.{statement}
use Rattle.node_semver_c.proofs.handle.intervals.IntervalsHandle.of.Code as code

pub of_spec : {M : Type 1} → statement M
of_spec 𝓤 𝓛 𝓜 𝓡 wired =
    of_meets intervals_handle the_row (λ d. d.value) 𝓤 𝓛 (λ p o. record { at = p; value = o })
    (λ p o. refl) (λ p o. refl) 𝓜 𝓡 #self (code.unfolded 𝓤 𝓛.H 𝓜 𝓡 wired)
