-- The output so far, and then the output from here on, is the output from the first pair on; a part of the output so
-- far is written, and the other part waits.
use Rattle.std.proofs.Common.{◌≤◌, length, IsTrue}
use Rattle.std.specs.Str.{IsAscii}
use Rattle.semver_pairs.specs.GaugeValue.{HasFailed}
use Rattle.semver_pairs.proofs.MoveLemmas.{VersionsSoFar}
use Rattle.semver_pairs.proofs.answering.answer_versions.Given as goal

abbrev pub invariant-versions : goal.invariant-versions
invariant-versions g l =
    VersionsSoFar l.fn.pair.range.now l.fn.pair.version.now l.fn.pair.rest.now l.version l.rest
    (g.W.Write.contents l.fn.writer.inner) (g.W.Write.contents l.writer.inner) l.fn.answers l.answers
    × (¬ HasFailed l.writer)
    × (length l.rest ≤ length l.fn.pair.rest.now)
    × (IsTrue l.fn.pair.is_ascii → IsAscii l.version × IsAscii l.rest)

abbrev pub decreases-versions : goal.decreases-versions
decreases-versions g l = length l.rest
