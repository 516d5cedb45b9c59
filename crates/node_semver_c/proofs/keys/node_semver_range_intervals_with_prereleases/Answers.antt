use Rattle.std.proofs.Common.{List, length, ◌≤◌, subst}
use Rattle.node_semver_c.proofs.Found.{made_of}
use Rattle.node_semver_c.proofs.keys.node_semver_range_intervals_with_prereleases.Goals as goal
use Rattle.semver_cuts.specs.Ends.{Ends}
use Rattle.semver_keys.specs.Intervals.{AreInOrder, AreIntervalsOfBoth, IntervalValue}
use Rattle.semver_sets.specs.Meaning.{RangeContains}
use Rattle.semver_texts.specs.Version.{VersionValue}

pub returns-in-Ok : goal.returns-in-Ok
returns-in-Ok c = record {
  meant = made_of (AreIntervalsOfBoth (RangeContains c.args.range.now.value)) c.in-Ok.list.items c.keep_intervals.result
      c.keep_intervals.new.held.value
      (subst (λ (sets : List (Ends VersionValue)). AreIntervalsOfBoth (RangeContains sets) c.in-Ok.list.items) c.get.ensures
      c.in-Ok.ensures.meant) c.keep_intervals.ensures;
  few = made_of (λ (l : List IntervalValue). AreInOrder l × (length l ≤ length c.args.range.now.value)) c.in-Ok.list.items c.keep_intervals.result
      c.keep_intervals.new.held.value
      (subst (λ (sets : List (Ends VersionValue)). AreInOrder c.in-Ok.list.items × (length c.in-Ok.list.items ≤ length sets)) c.get.ensures
      c.in-Ok.ensures.few) c.keep_intervals.ensures;
}
