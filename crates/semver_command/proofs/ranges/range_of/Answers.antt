use Rattle.semver_command.proofs.ranges.range_of.Goals as goal

pub returns-in-Ok : goal.returns-in-Ok
returns-in-Ok c = λ v. rw c.in-Some.is (c.in-Ok.ensures.means v)
