use Rattle.semver_command.proofs.kept.keep_best.Goals as goal

pub returns-then-is_new_best : goal.returns-then-is_new_best
returns-then-is_new_best c = λ versions is. c.if-is_new_best.ensures versions (rw c.as_ref.ensures.value is)

pub returns-else-is_new_best : goal.returns-else-is_new_best
returns-else-is_new_best c = λ versions is.
    rw c.as_ref.ensures.value at (c.if-is_new_best.ensures versions (rw c.as_ref.ensures.value is))
