use Rattle.semver_cuts.specs.Lemmas.Joined.{places_of-merged}
use Rattle.semver_cuts.proofs.algebra.merged.MergedSpans.of_merged.Goals as goal

pub invariant_of-result : goal.invariant_of-result
invariant_of-result g c = places_of-merged g.met.T.Ord.total c.args.spans.now c.requires
