use Rattle.std.proofs.Common.{◌≡◌, ◌++◌, List, drop}
use Rattle.semver_cuts.specs.Ends.{Ends, span_between}
use Rattle.semver_cuts.proofs.Differences.PiecesAlong.{IsWalked}
use Rattle.semver_cuts.proofs.algebra.difference.add_pieces.Given as goal

abbrev pub invariant-loop-number : goal.invariant-loop-number
invariant-loop-number g l = record {
  done : List (Ends g.row.T.Denot);
  gathered : g.S.Gather.gathered l.into ≡ g.S.Gather.gathered l.initial.into ++ done;
  walked : IsWalked g.met.T.Ord.total l.others.list (span_between l.initial.low l.high) l.low
      (drop l.number l.others.merged) done;
}
