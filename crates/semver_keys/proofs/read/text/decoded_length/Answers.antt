use Rattle.std.proofs.Common.{arith}
use Rattle.semver_keys.proofs.TextReading.{shorter}
use Rattle.semver_keys.proofs.read.text.decoded_length.Goals as goal

pub bytes-smaller : goal.bytes-smaller
bytes-smaller c = shorter _ _ _ c.in-Some.ensures.read

pub bytes-preserved : goal.bytes-preserved
bytes-preserved c = let less = shorter _ _ _ c.in-Some.ensures.read in let before = c.bytes.invariant in omega arith
