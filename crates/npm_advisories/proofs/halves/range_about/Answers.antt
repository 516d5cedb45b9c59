-- The range of the sets has the versions that they have.
use Rattle.npm_advisories.specs.Private.Spans.{IsInRange}
use Rattle.npm_advisories.specs.Lemmas.Spans.{range-means}
use Rattle.npm_advisories.proofs.Results.{ok-map3}
use Rattle.npm_advisories.proofs.halves.range_about.Goals as goal

pub returns : goal.returns
returns c =
    let made = rw c.deref.ensures.value at c.range_from_sets.ensures in
    ok-map3 c.range_from_sets.result
    (λ all sets some none. range-means (IsInRange c.args.advisories.now) c.in_ok-sets_of.field-0.items all
    c.in_ok-sets_of.ensures sets none) made.sets made.some made.none
