use native.Mathlib.Omega.{arith}
use Rattle.node_semver.specs.Lemmas.GreatestLemmas.{greatest-found, none-found}
use Rattle.node_semver.proofs.range.greatest.greatest_admitted.Goals as goal

pub returns-clause-greatest : goal.returns-clause-greatest
returns-clause-greatest g c = grind (arith, greatest-found)

pub returns-clause-none : goal.returns-clause-none
returns-clause-none g c = grind (arith, none-found)
