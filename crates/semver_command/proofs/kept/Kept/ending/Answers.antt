use Rattle.semver_command.proofs.Answered.{empty_ending, some_ending}
use Rattle.semver_command.proofs.kept.Kept.ending.Goals as goal

pub returns-then-is_nothing : goal.returns-then-is_nothing
returns-then-is_nothing c = λ options versions is. empty_ending versions (c.if-is_nothing.ensures options versions is)

pub returns-else-is_nothing : goal.returns-else-is_nothing
returns-else-is_nothing c = λ options versions is. some_ending versions (c.if-is_nothing.ensures options versions is)
