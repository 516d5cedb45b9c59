-- What was found so far.
use Rattle.std.proofs.Common.{map}
use Rattle.npm_advisories.specs.Advisories.{about_value}
use Rattle.npm_advisories.specs.Private.Spans.{IsOfEach}
use Rattle.npm_advisories.proofs.EachRelease.{IsFoundTo}
use Rattle.npm_advisories.proofs.each.about_each.Given as goal

abbrev pub invariant-loop-advisory : goal.invariant-loop-advisory
invariant-loop-advisory l = IsFoundTo IsOfEach (λ advisory. about_value advisory.about) l.advisories l.advisory-index (map about_value l.each.items)
