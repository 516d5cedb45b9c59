use Rattle.semver_keys.proofs.SpanKeys.{range-is_both}
use Rattle.semver_keys.proofs.FewIntervals.{range-few_both}
use Rattle.semver_keys.proofs.interval.range_intervals_with_prereleases.Goals as goal

pub returns-clause-meant : goal.returns-clause-meant
returns-clause-meant c = range-is_both _ _ _ _ _ _ c.in_ok-sets.ensures.sets c.in_ok-spans.ensures
    c.in_ok-intervals.ensures.items c.deref.ensures.value c.in_ok-add_intervals.ensures.added
    c.in_ok-add_intervals.ensures.words

pub returns-clause-few : goal.returns-clause-few
returns-clause-few c = range-few_both c.merged_spans_are_fixed_by_their_cuts.ensures.count _ _ _ _ _ _
    c.in_ok-sets.ensures.holds c.in_ok-sets.ensures.sets c.in_ok-spans.ensures
    c.in_ok-intervals.ensures.items c.deref.ensures.value c.in_ok-add_intervals.ensures.added
    c.in_ok-add_intervals.ensures.words
