-- The hits so far are those of the advisories so far.
use Rattle.std.proofs.Common.{map, take}
use Rattle.npm_advisories.specs.Hits.{AreKept}
use Rattle.npm_advisories.specs.Advisories.{about_value}
use Rattle.npm_advisories.specs.Private.Spans.{IsHitBy}
use Rattle.npm_advisories.proofs.hits.hits_of.Given as goal

abbrev pub invariant-loop-advisory : goal.invariant-loop-advisory
invariant-loop-advisory l = AreKept (IsHitBy l.level l.version) (λ advisory. about_value advisory.about)
    (take l.advisory-index l.advisories) (map about_value l.hits.items)
