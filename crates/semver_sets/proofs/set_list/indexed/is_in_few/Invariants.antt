-- No set so far admits the version, and each one that opens its triple took two comparisons at most.
use Rattle.std.proofs.Common.{◌+◌, ◌*◌, ◌≤◌, take}
use Rattle.semver_sets.specs.Meaning.{RangeAdmits}
use Rattle.semver_sets.specs.Searching.{count_of_opening}
use Rattle.semver_sets.proofs.set_list.indexed.is_in_few.Given as goal

abbrev pub invariant-sets : goal.invariant-sets
invariant-sets g l = record {
  none : ¬ RangeAdmits (take l.set-index l.sets) (g.V.AsVersion.seen l.version);
  adds : g.C.Counts.count l.fn.comparisons ≤ g.C.Counts.count l.comparisons;
  short : g.C.Counts.count l.comparisons ≤ g.C.Counts.count l.fn.comparisons
      + 2 * count_of_opening (g.V.AsVersion.seen l.version) (take l.set-index l.sets);
}
