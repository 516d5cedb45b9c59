use Rattle.std.proofs.Common.{arith}
use Rattle.std.proofs.lemmas.List.{take_more}
use Rattle.semver_keys.proofs.TextReading.{plain-more}
use Rattle.semver_keys.proofs.read.text.is_plain.Goals as goal

pub bytes-preserved : goal.bytes-preserved
bytes-preserved c = plain-more _ _ _ (omega arith) c.bytes.invariant
    (take_more c.args.bytes.now c.bytes.byte-index 0 c.bytes-test.true)
