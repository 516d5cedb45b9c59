use Rattle.std.proofs.Common.{◌↔◌, ◌∷◌, drop}
use Rattle.semver_cuts.specs.Ends.{IsCutBelow, span_between}
use Rattle.semver_cuts.specs.Joined.{AreMerged}
use Rattle.semver_cuts.proofs.algebra.places.are_merged.Given as goal

abbrev pub invariant-loop-span : goal.invariant-loop-span
invariant-loop-span g l = record {
  rising : IsCutBelow g.T.Ord.cmp l.last.0.now l.last.1.now;
  merged : AreMerged g.T.Ord.cmp l.spans
      ↔ AreMerged g.T.Ord.cmp (span_between l.last.0.now l.last.1.now ∷ drop l.span-index l.others);
}
