use native.Mathlib.Omega.{arith}
use Rattle.std.proofs.Common.{IfOk, List, ◌∙◌, true, subst}
use Rattle.semver_cuts.specs.Ends.{Ends}
use Rattle.semver_texts.specs.Version.{VersionValue}
use Rattle.node_semver.specs.Private.LeastViews.{IsLeastOfSets}
use Rattle.node_semver.proofs.Least.LeastOfSets.{found-build, found-least, none-found}
use Rattle.node_semver.proofs.range.prereleases.WithPrereleases.min_version.Goals as goal

pub returns-clause-least : goal.returns-clause-least
returns-clause-least c = found-least true c.args.self.now c.least_version.result
    (subst (λ (l : List (Ends VersionValue)). IfOk c.least_version.result (IsLeastOfSets true l))
    (c.as_slice.ensures ∙ c.range.view_is ∙ c.self.view_is) c.least_version.ensures)

pub returns-clause-none : goal.returns-clause-none
returns-clause-none c = none-found true c.args.self.now c.least_version.result
    (subst (λ (l : List (Ends VersionValue)). IfOk c.least_version.result (IsLeastOfSets true l))
    (c.as_slice.ensures ∙ c.range.view_is ∙ c.self.view_is) c.least_version.ensures)

pub returns-clause-build : goal.returns-clause-build
returns-clause-build c = grind (arith, found-build)
