use Rattle.std.proofs.Common.{◌≡◌, ◌++◌, List, drop}
use Rattle.semver_cuts.specs.Ends.{Ends}
use Rattle.semver_cuts.specs.Difference.{AreDifference}
use Rattle.semver_cuts.proofs.algebra.merged.MergedSpans.subtract_from.Given as goal

abbrev pub invariant-loop-one : goal.invariant-loop-one
invariant-loop-one g l = record {
  done : List (Ends g.row.T.Denot);
  gathered : g.S.Gather.gathered l.into ≡ g.S.Gather.gathered l.initial.into ++ done;
  left : (later : List (Ends g.row.T.Denot)) → AreDifference g.T.Ord.cmp (drop l.one-index l.ones) l.self.list later
      → AreDifference g.T.Ord.cmp l.ones l.self.list (done ++ later);
}
