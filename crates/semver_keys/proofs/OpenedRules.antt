-- What the proofs about the parts use.
use Rattle.std.proofs.lemmas.Grind.{common_steps}
use Rattle.semver_keys.proofs.OpenedSteps.{none-is, rising, some-is}

pub ruleset part_rules = (common_steps, none-is, rising, some-is)
