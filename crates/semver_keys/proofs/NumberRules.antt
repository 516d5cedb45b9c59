-- What the proofs about numbers use.
use Rattle.std.proofs.lemmas.Grind.{common_steps}
use Rattle.semver_keys.proofs.Growing.{grown_none}
use Rattle.semver_keys.proofs.NumberSteps.{count-none, count-one, long-is, lowest-none, lowest-one}
use Rattle.semver_keys.specs.Lemmas.NumberOrder.{long-key, short-key}

pub ruleset count_rules = (count-none, count-one)

pub ruleset bytes_rules = (common_steps, grown_none, long-is, lowest-none, lowest-one)

pub ruleset key_rules = (common_steps, grown_none, long-key, short-key)
