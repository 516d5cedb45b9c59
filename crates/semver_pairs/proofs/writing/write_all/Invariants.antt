-- The bytes before `at` were written, and no write has failed.
use Rattle.std.proofs.Common.{◌-◌, ◌≤◌, length, take}
use Rattle.std.specs.Io.KnownBytes.{Appends}
use Rattle.semver_pairs.specs.GaugeValue.{HasFailed}
use Rattle.semver_pairs.proofs.writing.write_all.Given as goal

abbrev pub invariant-writes : goal.invariant-writes
invariant-writes g l = (l.at ≤ length l.text)
    × Appends (g.W.Write.contents l.fn.writer.inner) (g.W.Write.contents l.writer.inner) (take l.at l.text)
    × (¬ HasFailed l.writer)

abbrev pub decreases-writes : goal.decreases-writes
decreases-writes g l = length l.text - l.at
