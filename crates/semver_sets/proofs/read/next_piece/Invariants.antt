use Rattle.std.proofs.Common.{◌≤◌, ◌-◌, length}
use Rattle.semver_sets.proofs.Ranges.PieceLemmas.{Passed}
use Rattle.semver_sets.proofs.read.next_piece.Given as goal

abbrev pub invariant-bars : goal.invariant-bars
invariant-bars l = (l.passed ≤ length l.text) × Passed l.text l.passed

abbrev pub decreases-bars : goal.decreases-bars
decreases-bars l = length l.text - l.passed
