-- All output for the complete pairs is written, each read returned at least one byte, and nothing has failed.
use Rattle.std.proofs.Common.{◌≡◌, []}
use Rattle.semver_pairs.specs.GaugeValue.{HasFailed}
use Rattle.semver_pairs.specs.Private.OpenPair.{IsOpen}
use Rattle.semver_pairs.proofs.RunLemmas.{RunSoFar}
use Rattle.semver_pairs.proofs.program.run.Given as goal

abbrev pub invariant-reads : goal.invariant-reads
invariant-reads g l =
    RunSoFar (g.R.Read.remaining l.fn.reader.inner) (g.R.Read.remaining l.reader.inner)
    (g.W.Write.contents l.fn.writer.inner) (g.W.Write.contents l.writer.inner) l.kept l.counter
    × IsOpen l.kept
    × (l.answers ≡ [])
    × (¬ HasFailed l.reader)
    × (¬ HasFailed l.writer)
