use Rattle.std.proofs.Common.{false, true}
use Rattle.semver_command.proofs.Answered.{best_nothing, listed_nothing}
use Rattle.semver_command.proofs.kept.Kept.is_nothing.Goals as goal

pub returns-in-All : goal.returns-in-All
returns-in-All c = λ options versions is. listed_nothing c.is_nothing.result options.reverse versions
    c.in-All.versions.items (rw c.in-All.is at is).1 (rw c.deref.ensures.value at c.is_nothing.ensures)

pub returns-in-Least : goal.returns-in-Least
returns-in-Least c = λ options versions is.
    best_nothing c.is_none.result true versions c.in-Least.best (rw c.in-Least.is at is).1 c.is_none.ensures

pub returns-in-Greatest : goal.returns-in-Greatest
returns-in-Greatest c = λ options versions is. best_nothing c.is_none-in-Greatest.result false versions
    c.in-Greatest.best (rw c.in-Greatest.is at is).1 c.is_none-in-Greatest.ensures
