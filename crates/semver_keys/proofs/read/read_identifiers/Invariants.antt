use Rattle.std.proofs.Common.{length}
use Rattle.semver_texts.specs.Identifier.{values_of}
use Rattle.semver_keys.proofs.IdentifierReading.{AreListed}
use Rattle.semver_keys.proofs.read.read_identifiers.Given as goal

abbrev pub invariant-parts : goal.invariant-parts
invariant-parts l = AreListed (values_of l.identifiers.items) l.rest l.key

abbrev pub decreases-parts : goal.decreases-parts
decreases-parts l = length l.rest
