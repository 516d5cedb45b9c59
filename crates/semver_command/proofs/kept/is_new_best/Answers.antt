use Rattle.semver_command.proofs.Best.{best_first, best_next}
use Rattle.semver_command.proofs.kept.is_new_best.Goals as goal

pub returns-in-Some : goal.returns-in-Some
returns-in-Some c = λ versions is. rw c.in-Some.is (best_next c.is_better.result c.args.is_least c.args.version.now
    c.in-Some.best.now versions c.is_better.ensures (rw c.in-Some.is at is))

pub returns-in-None : goal.returns-in-None
returns-in-None c = λ versions is. best_first c.args.is_least c.args.version.now versions (rw c.in-None.is at is)
