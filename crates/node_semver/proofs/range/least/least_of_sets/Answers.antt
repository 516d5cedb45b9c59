use native.Mathlib.Omega.{arith}
use Rattle.std.proofs.Common.{List, subst}
use Rattle.std.proofs.lemmas.List.{take_all}
use Rattle.semver_cuts.specs.Ends.{Ends}
use Rattle.semver_texts.specs.Version.{VersionValue}
use Rattle.node_semver.specs.Private.LeastViews.{IsLeastOfSets}
use Rattle.node_semver.proofs.Least.LeastOfSets.{taken-least}
use Rattle.node_semver.proofs.range.least.least_of_sets.Goals as goal

pub sets-preserved : goal.sets-preserved
sets-preserved c = grind (arith, taken-least)

pub returns : goal.returns
returns c =
    subst (λ (l : List (Ends VersionValue)). IsLeastOfSets c.args.included l c.sets.least)
    (take_all c.sets.set-index c.args.sets.now c.sets-test.false) c.sets.invariant
