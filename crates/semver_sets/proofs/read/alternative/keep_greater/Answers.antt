use native.Mathlib.Omega.{arith}
use Rattle.semver_cuts.specs.Lemmas.Ends.{at_most-from_not_lt}
use Rattle.semver_texts.specs.Lemmas.Public.{version_total}
use Rattle.semver_sets.proofs.read.alternative.keep_greater.Goals as goal

pub returns : goal.returns
returns c = grind (arith, at_most-from_not_lt, version_total)
