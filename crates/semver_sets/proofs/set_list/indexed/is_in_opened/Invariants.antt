use Rattle.std.proofs.Common.{◌+◌, ◌*◌, ◌≤◌, take}
use Rattle.semver_cuts.specs.Places.{span_at}
use Rattle.semver_sets.specs.Meaning.{AnyByRecursion, IsInside}
use Rattle.semver_sets.proofs.set_list.indexed.is_in_opened.Given as goal

abbrev pub invariant-openings : goal.invariant-openings
invariant-openings g l = record {
  none : ¬ AnyByRecursion (λ o. IsInside (g.V.AsVersion.seen l.version) (span_at l.sets o.place))
      (take l.opening-index l.openings);
  adds : g.C.Counts.count l.fn.comparisons ≤ g.C.Counts.count l.comparisons;
  short : g.C.Counts.count l.comparisons ≤ g.C.Counts.count l.fn.comparisons + 2 * l.opening-index;
}
