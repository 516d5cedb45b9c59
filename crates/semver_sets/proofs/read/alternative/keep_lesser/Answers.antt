use native.Mathlib.Omega.{arith}
use Rattle.semver_cuts.specs.Lemmas.Ends.{at_most-from_not_lt}
use Rattle.semver_texts.specs.Lemmas.Public.{version_total}
use Rattle.semver_sets.proofs.read.alternative.keep_lesser.Goals as goal

pub returns-else-lt : goal.returns-else-lt
returns-else-lt c = grind (arith, at_most-from_not_lt, version_total)
