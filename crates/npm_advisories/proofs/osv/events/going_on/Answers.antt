-- One cut more, or none.
use Rattle.std.proofs.Common.{◌≡◌, ◌+◌, ◌∙◌, ap, arith, drop, sym, subst}
use Rattle.std.specs.List.{Contains}
use Rattle.std.proofs.lemmas.List.{take_rest}
use Rattle.serde_json.specs.View.{items_view, view}
use Rattle.node_semver.specs.Cuts.{Cut}
use Rattle.node_semver.specs.Ranges.{IsRangeCut}
use Rattle.node_semver.specs.Versions.{VersionValue}
use Rattle.npm_advisories.specs.OsvForm.{event_of, events_of}
use Rattle.npm_advisories.specs.OsvFaults.{event_fault}
use Rattle.npm_advisories.specs.Lemmas.Items.{left, left-none}
use Rattle.npm_advisories.specs.Private.VersionTest.{is_version}
use Rattle.npm_advisories.proofs.OsvGoing.{AreSoFar, all-so-far, each-more, first-none, none-so-far, so-far-more}
use Rattle.npm_advisories.proofs.OsvGoing.{so-far-passed}
use Rattle.npm_advisories.proofs.osv.events.going_on.Goals as goal
use Rattle.npm_advisories.proofs.osv.events.going_on.Goals.{in-Some+in_ok-push, in_default}

pub loop-place-init : goal.loop-place-init
loop-place-init c = record {
  same = rw c.new-cuts.ensures.items (none-so-far _);
  each = rw c.new-cuts.ensures.items (λ cut has. absurd (omega (arith, has.1)));
  fault = c.requires;
}

pub goes_on-requires : goal.goes_on-requires
goes_on-requires c =
    let events = c.args.events.now in
    let place = c.loop-place.place in
    let one = c.index-events-place.result in
    let here = left events place one c.loop-place-test.true c.index-events-place.is in
    let none = first-none (event_fault is_version) (view one) (items_view (drop (place + 1) events))
    (rw here at c.loop-place.invariant.fault) in
    rw (take_rest events (place + 1)) none.1

pub loop-place-preserved : goal.loop-place-preserved
loop-place-preserved c =
    let events = c.args.events.now in
    let place = c.loop-place.place in
    let one = c.index-events-place.result in
    let cuts = c.loop-place.cuts.items in
    let whole = events_of (items_view events) in
    let others = events_of (items_view (drop (place + 1) events)) in
    let here = left events place one c.loop-place-test.true c.index-events-place.is in
    let so_far = rw here at c.loop-place.invariant.same in
    let none = first-none (event_fault is_version) (view one) (items_view (drop (place + 1) events))
    (rw here at c.loop-place.invariant.fault) in
    let goes = rw (take_rest events (place + 1)) at c.in_ok-cut.ensures in
    elim c.match-branch-2.branch [
      | in-Some+in_ok-push w ↦
          let now = ap (λ v. v.items) w.cuts-is ∙ w.in_ok-push.ensures.items in
          let found = rw w.in-Some.is at goes in
          record {
            same = subst (AreSoFar whole others) (sym now)
                (so-far-more whole others cuts (event_of (view one)) w.in-Some.cut so_far found);
            each = subst (λ l. (cut : Cut VersionValue) → Contains l cut → IsRangeCut cut) (sym now)
                (each-more whole others cuts (event_of (view one)) w.in-Some.cut found c.loop-place.invariant.each);
            fault = none.1;
          }
      | in_default w ↦
          let now = ap (λ v. v.items) w.cuts-is in
          record {
            same = subst (AreSoFar whole others) (sym now)
                (so-far-passed whole others cuts (event_of (view one)) so_far (rw w.in_default.is at goes));
            each = subst (λ l. (cut : Cut VersionValue) → Contains l cut → IsRangeCut cut) (sym now)
                c.loop-place.invariant.each;
            fault = none.1;
          }
    ]

pub returns : goal.returns
returns c =
    let events = c.args.events.now in
    let so_far = rw (left-none events c.loop-place.place c.loop-place-test.false) at c.loop-place.invariant.same in
    record {
      same = all-so-far (events_of (items_view events)) c.loop-place.cuts.items so_far;
      each = c.loop-place.invariant.each;
    }
