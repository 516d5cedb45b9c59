-- Each advisory is one hit more, or none.
use Rattle.std.proofs.Common.{◌∙◌, ap, refl}
use Rattle.npm_advisories.specs.Hits.{none}
use Rattle.npm_advisories.specs.Advisories.{about_value}
use Rattle.npm_advisories.specs.Private.Spans.{IsHitBy}
use Rattle.npm_advisories.proofs.Keeping.{next-kept, next-left}
use Rattle.npm_advisories.proofs.hits.hits_of.Goals as goal
use Rattle.npm_advisories.proofs.hits.hits_of.Goals.{then-is_hit+in_ok-push, else-is_hit}

pub loop-advisory-init : goal.loop-advisory-init
loop-advisory-init c = rw c.new-hits.ensures.items none

pub loop-advisory-preserved : goal.loop-advisory-preserved
loop-advisory-preserved c = elim c.if-is_hit.branch [
  | then-is_hit+in_ok-push w ↦
      next-kept (IsHitBy c.args.level c.args.version.now) (λ advisory. about_value advisory.about) about_value
      c.args.advisories.now c.loop-advisory.advisory-index c.advisory-item.result c.loop-advisory-test.true
      c.advisory-item.is _ _ c.advisory-item.result.about c.loop-advisory.invariant
      (c.is_hit.ensures.0 w.if-is_hit.true) (ap (λ v. v.items) w.hits-is ∙ w.in_ok-push.ensures.items) refl
  | else-is_hit w ↦
      next-left (IsHitBy c.args.level c.args.version.now) (λ advisory. about_value advisory.about) about_value
      c.args.advisories.now c.loop-advisory.advisory-index c.advisory-item.result c.loop-advisory-test.true
      c.advisory-item.is _ _ c.loop-advisory.invariant (λ hit. cc (w.if-is_hit.false, c.is_hit.ensures.1 hit))
      (ap (λ v. v.items) w.hits-is)
]
