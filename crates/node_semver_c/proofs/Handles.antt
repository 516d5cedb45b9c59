-- The handles of the crate, and how each is made of its parts. Assumes nothing.
use Rattle.node_semver_c.specs.contracts.handle.intervals.IntervalsHandle as IH
use Rattle.node_semver_c.specs.contracts.handle.intervals.IntervalsRef as IR
use Rattle.node_semver_c.specs.contracts.handle.range.RangeHandle as RH
use Rattle.node_semver_c.specs.contracts.handle.range.RangeRef as RR
use Rattle.node_semver_c.specs.contracts.handle.version.VersionHandle as VH
use Rattle.node_semver_c.specs.contracts.handle.version.VersionRef as VR
use Rattle.node_semver_c.proofs.OnePointer.{Handle}

abbrev pub version_handle : Handle
version_handle = record {
  name = VH.struct.name;
  D = VH.struct.D;
  at = λ d. d.at;
  Ghost = VH.struct.Ghost;
  ghosts = VH.struct.ghosts;
  make = VH.struct.make;
  eta = VH.struct.eta;
  beta = VH.struct.beta;
  codes = VH.the_codes;
}

abbrev pub version_ref : Handle
version_ref = record {
  name = VR.struct.name;
  D = VR.struct.D;
  at = λ d. d.at;
  Ghost = VR.struct.Ghost;
  ghosts = VR.struct.ghosts;
  make = VR.struct.make;
  eta = VR.struct.eta;
  beta = VR.struct.beta;
  codes = VR.the_codes;
}

abbrev pub range_handle : Handle
range_handle = record {
  name = RH.struct.name;
  D = RH.struct.D;
  at = λ d. d.at;
  Ghost = RH.struct.Ghost;
  ghosts = RH.struct.ghosts;
  make = RH.struct.make;
  eta = RH.struct.eta;
  beta = RH.struct.beta;
  codes = RH.the_codes;
}

abbrev pub range_ref : Handle
range_ref = record {
  name = RR.struct.name;
  D = RR.struct.D;
  at = λ d. d.at;
  Ghost = RR.struct.Ghost;
  ghosts = RR.struct.ghosts;
  make = RR.struct.make;
  eta = RR.struct.eta;
  beta = RR.struct.beta;
  codes = RR.the_codes;
}

abbrev pub intervals_handle : Handle
intervals_handle = record {
  name = IH.struct.name;
  D = IH.struct.D;
  at = λ d. d.at;
  Ghost = IH.struct.Ghost;
  ghosts = IH.struct.ghosts;
  make = IH.struct.make;
  eta = IH.struct.eta;
  beta = IH.struct.beta;
  codes = IH.the_codes;
}

abbrev pub intervals_ref : Handle
intervals_ref = record {
  name = IR.struct.name;
  D = IR.struct.D;
  at = λ d. d.at;
  Ghost = IR.struct.Ghost;
  ghosts = IR.struct.ghosts;
  make = IR.struct.make;
  eta = IR.struct.eta;
  beta = IR.struct.beta;
  codes = IR.the_codes;
}
