-- The versions of the lines so far were added.
use Rattle.semver_command.specs.Ranges.{IsInAll}
use Rattle.semver_command.proofs.Gathering.{AddsLines}
use Rattle.semver_command.proofs.gathered.add_lines.Given as goal

abbrev pub invariant-lines : goal.invariant-lines
invariant-lines g l = AddsLines l.options (IsInAll l.options.include_prerelease l.ranges) l.fn.kept l.kept
