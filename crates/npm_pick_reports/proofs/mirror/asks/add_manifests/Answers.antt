-- The dependencies of one manifest more.
use Rattle.serde_json.specs.View.{view}
use Rattle.npm_pick_reports.specs.Asks.{manifest_asks}
use Rattle.npm_pick.specs.Lemmas.Gathering.{made_all, made_more}
use Rattle.npm_pick_reports.proofs.mirror.asks.add_manifests.Goals as goal

pub loop-manifest-preserved : goal.loop-manifest-preserved
loop-manifest-preserved c = made_more view c.args.manifests.now manifest_asks _ c.loop-manifest.manifest-index
    c.manifest-item.result _ _ c.loop-manifest-test.true c.manifest-item.is c.in_ok-add_manifest.ensures
    c.loop-manifest.invariant

pub returns : goal.returns
returns c = made_all view c.args.manifests.now manifest_asks _ c.loop-manifest.manifest-index _
    c.loop-manifest-test.false c.loop-manifest.invariant
