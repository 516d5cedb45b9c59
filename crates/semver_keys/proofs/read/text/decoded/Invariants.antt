use Rattle.std.proofs.Common.{◌≡◌, ◌++◌, length}
use Rattle.semver_keys.specs.Private.Reading.{written}
use Rattle.semver_keys.proofs.read.text.decoded.Given as goal

abbrev pub invariant-bytes : goal.invariant-bytes
invariant-bytes l = written l.text.items ++ l.rest ≡ l.bytes

abbrev pub decreases-bytes : goal.decreases-bytes
decreases-bytes l = length l.rest
