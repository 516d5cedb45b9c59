-- The spans are those of the faults so far.
use Rattle.std.proofs.Common.{take}
use Rattle.node_semver.specs.Ranges.{AnyByRecursion}
use Rattle.npm_advisories.specs.Lemmas.Spans.{Have}
use Rattle.npm_advisories.specs.Private.OsvReading.{IsFromStart}
use Rattle.npm_advisories.proofs.osv.between.spans_between.Given as goal

abbrev pub invariant-loop-start : goal.invariant-loop-start
invariant-loop-start l =
    Have l.spans.items (λ v. AnyByRecursion (λ start. IsFromStart l.marks start v) (take l.start-index l.marks.starts.items))
