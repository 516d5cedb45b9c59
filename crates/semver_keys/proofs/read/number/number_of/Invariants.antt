use Rattle.std.proofs.Common.{◌≡◌, take}
use Rattle.semver_keys.specs.NumberKey.{lowest_bytes}
use Rattle.semver_keys.specs.Lemmas.NumberOrder.{Fits}
use Rattle.semver_keys.proofs.read.number.number_of.Given as goal

abbrev pub invariant-bytes : goal.invariant-bytes
invariant-bytes l = record {
  fits : Fits l.byte-index l.n;
  bytes : lowest_bytes l.byte-index l.n ≡ take l.byte-index l.bytes;
}
