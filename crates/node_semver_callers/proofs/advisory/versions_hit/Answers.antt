-- Each version is one hit more, or none.
use Rattle.std.proofs.Common.{ap, ◌∙◌}
use Rattle.node_semver_callers.specs.Hits.{none}
use Rattle.node_semver_callers.proofs.MoreHits.{next-hit, next-spared}
use Rattle.node_semver_callers.proofs.advisory.versions_hit.Goals as goal
use Rattle.node_semver_callers.proofs.advisory.versions_hit.Goals.{then-satisfies+in_ok-push, else-satisfies}

pub loop-version-init : goal.loop-version-init
loop-version-init c = rw c.new-hits.ensures.items none

pub loop-version-preserved : goal.loop-version-preserved
loop-version-preserved c =
    let means = c.in_ok-range.ensures.means c.version-item.result in
    elim c.if-satisfies.branch [
      | then-satisfies+in_ok-push w ↦
          next-hit (λ v. v.now) c.args.advisory.now c.args.installed.now c.loop-version.version-index _ _ _
          c.loop-version-test.true c.version-item.is c.loop-version.invariant
          (means.0 (c.satisfies.ensures.0 w.if-satisfies.true))
          (ap (λ v. v.items) w.hits-is ∙ w.in_ok-push.ensures.items)
      | else-satisfies w ↦
          next-spared (λ v. v.now) c.args.advisory.now c.args.installed.now c.loop-version.version-index
          c.version-item.result _ _ c.loop-version-test.true c.version-item.is c.loop-version.invariant
          (λ admits. cc (w.if-satisfies.false, c.satisfies.ensures.1 (means.1 admits))) (ap (λ v. v.items) w.hits-is)
    ]
