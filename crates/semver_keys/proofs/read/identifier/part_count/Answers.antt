use Rattle.std.proofs.Common.{arith}
use Rattle.semver_keys.proofs.IdentifierReading.{shorter}
use Rattle.semver_keys.proofs.read.identifier.part_count.Goals as goal

pub parts-smaller : goal.parts-smaller
parts-smaller c = shorter _ _ _ c.in-Some.ensures.read

pub parts-preserved : goal.parts-preserved
parts-preserved c = let less = shorter _ _ _ c.in-Some.ensures.read in let before = c.parts.invariant in omega arith
