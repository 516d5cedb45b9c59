-- One demand more.
use Rattle.std.proofs.Common.{◌∙◌, ◌++◌, [], ◌∷◌, ap, map}
use Rattle.std.proofs.lemmas.List.{take_all}
use Rattle.npm_pick.specs.Lemmas.Gathering.{pushed_at}
use Rattle.npm_resolve.specs.Optional.{root_demand}
use Rattle.npm_resolve.proofs.optional.root_demands.Goals as goal

pub loop-demand-preserved : goal.loop-demand-preserved
loop-demand-preserved c = pushed_at (root_demand c.args.manifests.now c.args.names.now c.args.ranges.now) c.args.demands.now [] _ _
    c.loop-demand.demand-index _ c.loop-demand-test.true
    (c.in_ok-push.ensures.items ∙ ap (λ v. c.loop-demand.root.items ++ v ∷ []) c.root_demand.ensures) c.loop-demand.invariant

pub returns : goal.returns
returns c = c.loop-demand.invariant ∙ ap (map (root_demand c.args.manifests.now c.args.names.now c.args.ranges.now))
    (take_all c.loop-demand.demand-index c.args.demands.now c.loop-demand-test.false)
