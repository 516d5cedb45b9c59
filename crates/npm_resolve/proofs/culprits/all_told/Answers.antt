-- One demand more: its ask and its change are at its place.
use Rattle.version_solving.specs.Documents.{problem_of}
use Rattle.version_solving.specs.Fitting.{IsChange}
use Rattle.version_solving.specs.Naming.{IsAskOf}
use Rattle.npm_resolve.specs.Explanations.{IsCulprit}
use Rattle.npm_pick.specs.Lemmas.Zips.{one_more, zip_get_or, zip_inside}
use Rattle.npm_resolve.proofs.culprits.all_told.Goals as goal

pub loop-place-init : goal.loop-place-init
loop-place-init c = rw c.in_ok-culprits.ensures.items tt

pub bounds-asks-place : goal.bounds-asks-place
bounds-asks-place c = zip_inside (IsAskOf c.args.posed.now.wishes.items c.args.posed.now.root.items) c.args.demands.now c.args.asks.now
    c.loop-place.place c.requires.asks c.loop-place-test.true

pub bounds-changes-place : goal.bounds-changes-place
bounds-changes-place c = zip_inside (IsChange (problem_of c.args.posed.now.root.items c.args.posed.now.documents)) c.args.demands.now
    c.args.changes.now c.loop-place.place c.requires.changes c.loop-place-test.true

pub loop-place-preserved : goal.loop-place-preserved
loop-place-preserved c = rw c.in_ok-push.ensures.items (one_more (IsCulprit c.args.posed.now) c.args.demands.now
    c.loop-place.culprits.items c.loop-place.place _ _ c.loop-place-test.true c.loop-place.invariant (record {
      asked = zip_get_or (IsAskOf c.args.posed.now.wishes.items c.args.posed.now.root.items) c.args.demands.now c.args.asks.now
          c.loop-place.place _ _ c.requires.asks c.loop-place-test.true;
      change = _;
      fits = zip_get_or (IsChange (problem_of c.args.posed.now.root.items c.args.posed.now.documents)) c.args.demands.now
          c.args.changes.now c.loop-place.place _ _ c.requires.changes c.loop-place-test.true;
      key = c.fitting_of.ensures;
    }))
