-- The dependencies of the manifests so far are added.
use Rattle.std.proofs.Common.{◌≡◌, ◌++◌, map, take}
use Rattle.std.specs.List.{flat_map}
use Rattle.serde_json.specs.View.{view}
use Rattle.npm_pick_reports.specs.Asks.{ask_value, manifest_asks}
use Rattle.npm_pick_reports.proofs.mirror.asks.add_manifests.Given as goal

abbrev pub invariant-loop-manifest : goal.invariant-loop-manifest
invariant-loop-manifest l = map ask_value l.asks.items
    ≡ map ask_value l.initial.asks.items ++ flat_map manifest_asks (map view (take l.manifest-index l.manifests))
