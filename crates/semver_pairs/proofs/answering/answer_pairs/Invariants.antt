-- The output so far is for the pairs before the rest; a part of it is written, and the other part waits.
use Rattle.std.proofs.Common.{IsTrue}
use Rattle.std.specs.Str.{IsAscii}
use Rattle.std.proofs.Common.{length}
use Rattle.semver_pairs.specs.GaugeValue.{HasFailed}
use Rattle.semver_pairs.specs.Private.Answering.{AnswersPast}
use Rattle.semver_pairs.proofs.answering.answer_pairs.Given as goal

abbrev pub invariant-pairs : goal.invariant-pairs
invariant-pairs g l =
    AnswersPast l.fn.bytes l.rest (g.W.Write.contents l.fn.writer.inner) (g.W.Write.contents l.writer.inner)
    l.fn.answers l.answers
    × (¬ HasFailed l.writer)
    × (IsTrue l.is_ascii → IsAscii l.rest)

abbrev pub decreases-pairs : goal.decreases-pairs
decreases-pairs g l = length l.rest
