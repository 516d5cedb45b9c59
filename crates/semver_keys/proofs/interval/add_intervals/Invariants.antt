use Rattle.std.proofs.Common.{◌≡◌, ◌++◌, map, take}
use Rattle.std.specs.List.{AllByRecursion}
use Rattle.semver_keys.specs.Private.SpanIntervals.{HasSpanWords, interval_of}
use Rattle.semver_keys.proofs.interval.add_intervals.Given as goal

abbrev pub invariant-spans : goal.invariant-spans
invariant-spans l = (l.intervals.items ≡ l.initial.intervals.items ++ map (interval_of l.prereleases)
    (take l.span-index l.spans)) × AllByRecursion HasSpanWords (take l.span-index l.spans)
