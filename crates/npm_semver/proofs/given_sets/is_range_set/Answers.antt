use Rattle.semver_cuts.specs.Ends.{span_between}
use Rattle.semver_cuts.specs.Lemmas.TwoSpans.{holds-below}
use Rattle.semver_texts.specs.Lemmas.Public.{version_total}
use Rattle.npm_semver.proofs.given_sets.is_range_set.Goals as goal

pub returns-then-is_range_cut : goal.returns-then-is_range_cut
returns-then-is_range_cut c =
    let set = span_between c.ends.result.0.now c.ends.result.1.now in
    rw c.ends.ensures.ends (
      λ is. record {
        holds = (holds-below version_total set).1 c.ends.ensures.rising;
        lower = c.is_range_cut.ensures.0 c.if-is_range_cut.true;
        upper = c.is_range_cut-then-is_range_cut.ensures.0 is;
      },
      λ set. c.is_range_cut-then-is_range_cut.ensures.1 set.upper,
    )
