use Rattle.std.proofs.Common.{◌↔◌, false, IsTrue, List, subst}
use Rattle.semver_cuts.specs.Ends.{Ends}
use Rattle.semver_texts.specs.Version.{VersionValue}
use Rattle.node_semver.specs.Private.LeastViews.{IsInRange}
use Rattle.node_semver.proofs.range.least.question.AdmittedInclusion.has.Goals as goal

pub returns : goal.returns
returns g c =
    subst (λ (l : List (Ends VersionValue)).
    IsTrue c.admits.result ↔ IsInRange false l (g.V.AsVersion.seen c.args.version.now)) c.range.view_is
    c.admits.ensures.answer
