use Rattle.std.proofs.Common.{◌≤◌, ◌+◌, length}
use Rattle.semver_keys.proofs.read.text.decoded_length.Given as goal

abbrev pub invariant-bytes : goal.invariant-bytes
invariant-bytes l = l.length + length l.rest ≤ length l.bytes

abbrev pub decreases-bytes : goal.decreases-bytes
decreases-bytes l = length l.rest
