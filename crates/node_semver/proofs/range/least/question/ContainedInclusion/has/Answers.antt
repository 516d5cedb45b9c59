use Rattle.std.proofs.Common.{◌↔◌, true, IsTrue, List, subst}
use Rattle.semver_cuts.specs.Ends.{Ends}
use Rattle.semver_texts.specs.Version.{VersionValue}
use Rattle.node_semver.specs.Private.LeastViews.{IsInRange}
use Rattle.node_semver.proofs.range.least.question.ContainedInclusion.has.Goals as goal

pub returns : goal.returns
returns g c =
    subst (λ (l : List (Ends VersionValue)).
    IsTrue c.contains.result ↔ IsInRange true l (g.V.AsVersion.seen c.args.version.now)) c.range.view_is
    c.contains.ensures.answer
