-- The cuts so far are those of the events so far, and no event that is left has a fault.
use Rattle.std.proofs.Common.{◌≡◌, None, drop}
use Rattle.std.specs.List.{Contains}
use Rattle.serde_json.specs.View.{items_view}
use Rattle.node_semver.specs.Cuts.{Cut}
use Rattle.node_semver.specs.Ranges.{IsRangeCut}
use Rattle.node_semver.specs.Versions.{VersionValue}
use Rattle.npm_advisories.specs.Faults.{first_fault}
use Rattle.npm_advisories.specs.OsvFaults.{event_fault}
use Rattle.npm_advisories.specs.OsvForm.{events_of}
use Rattle.npm_advisories.specs.Private.VersionTest.{is_version}
use Rattle.npm_advisories.proofs.OsvGoing.{AreSoFar}
use Rattle.npm_advisories.proofs.osv.events.going_on.Given as goal

abbrev pub invariant-loop-place : goal.invariant-loop-place
invariant-loop-place l = record {
  same : AreSoFar (events_of (items_view l.events)) (events_of (items_view (drop l.place l.events))) l.cuts.items;
  each : (cut : Cut VersionValue) → Contains l.cuts.items cut → IsRangeCut cut;
  fault : first_fault (event_fault is_version) (items_view (drop l.place l.events)) ≡ None;
}
