use native.Mathlib.Omega.{arith}
use Rattle.std.proofs.lemmas.List.{take_all}
use Rattle.node_semver.specs.Lemmas.GreatestViews.{order_of}
use Rattle.node_semver.specs.Lemmas.GreatestLemmas.{each-order, taken-best}
use Rattle.node_semver.proofs.range.greatest.best_of.Goals as goal

pub versions-preserved : goal.versions-preserved
versions-preserved g c = grind (arith, taken-best, order_of, each-order)

pub returns : goal.returns
returns g c = grind (arith, order_of, take_all)
