use Rattle.semver_command.proofs.ranges.is_in.Goals as goal

pub returns-then-include_prerelease : goal.returns-then-include_prerelease
returns-then-include_prerelease c = rw (c.in-Some.is, c.if-include_prerelease.true) c.contains.ensures

pub returns-else-include_prerelease : goal.returns-else-include_prerelease
returns-else-include_prerelease c = rw (c.in-Some.is, c.if-include_prerelease.false) c.satisfies.ensures
