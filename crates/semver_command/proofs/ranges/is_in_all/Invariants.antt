-- The version is in all ranges if it is in those that are left.
use Rattle.std.proofs.Common.{◌↔◌, drop}
use Rattle.semver_command.specs.Ranges.{IsInAll}
use Rattle.semver_command.proofs.ranges.is_in_all.Given as goal

abbrev pub invariant-loop-range : goal.invariant-loop-range
invariant-loop-range l = IsInAll l.include_prerelease (drop l.range-index l.ranges) l.version
    ↔ IsInAll l.include_prerelease l.ranges l.version
