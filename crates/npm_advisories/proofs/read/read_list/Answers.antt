-- One advisory more is read.
use Rattle.std.proofs.Common.{◌∙◌, ◌++◌, ◌∷◌, []}
use Rattle.serde_json.specs.View.{view}
use Rattle.npm_advisories.specs.Advisories.{npm_advisory}
use Rattle.npm_advisories.specs.Faults.{npm_fault}
use Rattle.npm_advisories.specs.Lemmas.Adding.{adds-both, adds-one}
use Rattle.npm_advisories.proofs.Reading.{fault-none, read-next}
use Rattle.npm_advisories.proofs.read.read_list.Goals as goal

pub loop-place-preserved : goal.loop-place-preserved
loop-place-preserved c =
    let value = npm_advisory c.args.name.now (view c.index-entries-place.result) in
    record {
      front = c.loop-place.invariant.front ++ value ∷ [];
      adds = λ is_wanted. adds-both is_wanted _ _ _ c.loop-place.invariant.front (value ∷ [])
          (c.loop-place.invariant.adds is_wanted)
          (adds-one is_wanted _ _ value c.in-Ok.advisory c.in-Ok.ensures.read c.in_ok-add-in-Ok.ensures);
      rest = c.loop-place.invariant.rest ∙ read-next c.args.name.now c.args.entries.now c.loop-place.place
          c.index-entries-place.result c.loop-place-test.true c.index-entries-place.is c.loop-place.invariant.front;
      fault = c.loop-place.invariant.fault ∙ fault-none c.args.name.now c.args.entries.now c.loop-place.place
          c.index-entries-place.result c.loop-place-test.true c.index-entries-place.is npm_fault c.in-Ok.ensures.sound;
    }
