-- What the proofs about identifiers use.
use Rattle.std.proofs.lemmas.Grind.{common_steps}
use Rattle.semver_keys.proofs.Growing.{grown_none}
use Rattle.semver_keys.proofs.IdentifierSteps.{identifiers-end, identifiers-more, number-is}
use Rattle.semver_keys.proofs.IdentifierSteps.{text-end, text-is, text-more}
use Rattle.semver_keys.specs.Lemmas.IdentifierOrder.{low-byte, plain-byte}

pub ruleset identifier_rules =
    (common_steps, grown_none, identifiers-end, identifiers-more, low-byte, number-is, plain-byte, text-end, text-is, text-more)
