use Rattle.semver_keys.proofs.SpanKeys.{gathered, gathered-mean}
use Rattle.semver_keys.proofs.FewIntervals.{gathered-few}
use Rattle.semver_keys.proofs.interval.range_intervals.Goals as goal

pub returns-clause-meant : goal.returns-clause-meant
returns-clause-meant c = gathered-mean _ _ _ _ (gathered _ _ _ _ _ _ _ _ _ _ _
    c.in_ok-sets.ensures.sets c.deref.ensures.value
    c.in_ok-opened_parts.ensures c.in_ok-parts.ensures c.in_ok-spans.ensures c.in_ok-intervals.ensures.items
    c.deref-2.ensures.value c.in_ok-add_intervals.ensures.added c.in_ok-add_intervals.ensures.words
    c.deref-3.ensures.value c.in_ok-add_intervals-2.ensures.added c.in_ok-add_intervals-2.ensures.words)

pub returns-clause-few : goal.returns-clause-few
returns-clause-few c = gathered-few c.merged_spans_are_fixed_by_their_cuts.ensures.count _ _ _ _
    (rw (← c.in_ok-sets.ensures.sets) c.in_ok-sets.ensures.holds) (gathered _ _ _ _ _ _ _ _ _ _ _
    c.in_ok-sets.ensures.sets c.deref.ensures.value
    c.in_ok-opened_parts.ensures c.in_ok-parts.ensures c.in_ok-spans.ensures c.in_ok-intervals.ensures.items
    c.deref-2.ensures.value c.in_ok-add_intervals.ensures.added c.in_ok-add_intervals.ensures.words
    c.deref-3.ensures.value c.in_ok-add_intervals-2.ensures.added c.in_ok-add_intervals-2.ensures.words)
