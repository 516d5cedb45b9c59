-- The sets so far have what the advisories so far are about.
use Rattle.std.proofs.Common.{take}
use Rattle.npm_advisories.specs.Lemmas.Spans.{Have}
use Rattle.npm_advisories.specs.Private.Spans.{IsInRange}
use Rattle.npm_advisories.proofs.spans.sets_of.Given as goal

abbrev pub invariant-loop-advisory : goal.invariant-loop-advisory
invariant-loop-advisory l = Have l.all.items (IsInRange (take l.advisory-index l.advisories))
