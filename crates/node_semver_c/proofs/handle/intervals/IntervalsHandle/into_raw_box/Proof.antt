-- `into_raw_box` hands the pointer over, with the right to free what lies there; or nothing, where it is null. Assumes
-- `Logic`.
use Rattle.node_semver_c.specs.contracts.intervals.Intervals.{the_row}
use Rattle.node_semver_c.proofs.Handles.{intervals_handle}
use Rattle.node_semver_c.proofs.Taken.{into_raw_box_meets}
use Rattle.node_semver_c.specs.contracts.handle.intervals.IntervalsHandle.into_raw_box.Key.{name as #self}
use Rattle.node_semver_c.proofs.handle.intervals.IntervalsHandle.into_raw_box.Statement.{statement}
use Rattle.node_semver_c.proofs.handle.intervals.IntervalsHandle.into_raw_box.Code as code

pub into_raw_box_spec : {M : Type 1} → statement M
into_raw_box_spec 𝓤 𝓛 𝓜 𝓡 wired =
    into_raw_box_meets intervals_handle the_row (λ d. d.value) 𝓤 𝓛 𝓜 𝓡 #self (code.unfolded 𝓤 𝓛.H 𝓜 𝓡 wired)
