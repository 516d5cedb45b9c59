use native.Mathlib.Omega.{arith}
use Rattle.node_semver.specs.Lemmas.GreatestViews.{downward}
use Rattle.node_semver.specs.Lemmas.GreatestLemmas.{least-found, none-found}
use Rattle.node_semver.proofs.range.greatest.least_admitted.Goals as goal

pub returns-clause-least : goal.returns-clause-least
returns-clause-least g c = grind (arith, least-found)

pub returns-clause-none : goal.returns-clause-none
returns-clause-none g c = grind (arith, none-found, downward)
