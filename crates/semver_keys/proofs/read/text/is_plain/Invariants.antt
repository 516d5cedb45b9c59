use Rattle.std.proofs.Common.{◌≡◌, take}
use Rattle.semver_keys.specs.Private.Reading.{written}
use Rattle.semver_keys.proofs.read.text.is_plain.Given as goal

abbrev pub invariant-bytes : goal.invariant-bytes
invariant-bytes l = written (take l.byte-index l.bytes) ≡ take l.byte-index l.bytes
