-- The releases outside the spans so far are those that the texts so far admit.
use Rattle.std.specs.List.{AllByRecursion}
use Rattle.node_semver.specs.Ranges.{IsRangeSet}
use Rattle.npm_advisories.proofs.Offering.{AreAskedSpans}
use Rattle.npm_advisories.proofs.offer.least_admitted.Given as goal

abbrev pub invariant-loop-text : goal.invariant-loop-text
invariant-loop-text l = record {
  holds : AllByRecursion IsRangeSet l.outside.items;
  exact : AreAskedSpans (λ text. text.now) l.asked l.outside.items l.text-index;
}
