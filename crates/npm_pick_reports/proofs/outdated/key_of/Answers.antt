-- A version is picked, or none.
use Rattle.npm_pick.specs.Pick.{IsPicked, picked_value}
use Rattle.npm_texts.specs.RangeText.{filled}
use Rattle.serde_json.specs.View.{view}
use Rattle.npm_pick_reports.specs.Outdated.{none, picked}
use Rattle.npm_pick.specs.Lemmas.Answers.{is_picked, is_unpicked}
use Rattle.npm_pick_reports.proofs.outdated.key_of.Goals as goal

pub returns-in-Ok-clause-found : goal.returns-in-Ok-clause-found
returns-in-Ok-clause-found c = picked (picked_value c.in-Ok.picked)
    (is_picked (IsPicked (view c.args.packument.now) c.args.options.now (filled c.args.text.now))
    (picked_value c.in-Ok.picked) (rw c.in-Ok.is at c.pick.ensures))

pub returns-in_default : goal.returns-in_default
returns-in_default c = record {
  found = none c.in-Err.error
      (is_unpicked (IsPicked (view c.args.packument.now) c.args.options.now (filled c.args.text.now))
      c.in-Err.error c.in_default.not-Memory (rw c.in-Err.is at c.pick.ensures));
  failed = tt;
}
