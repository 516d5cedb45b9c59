-- What is left so far, and of the packages to come, is what is left of all.
use Rattle.std.proofs.Common.{◌≡◌, ◌++◌, map}
use Rattle.npm_advisories.specs.Audit.{found_value}
use Rattle.npm_lock_reports.specs.Exceptions.{exceptions_value, left_in}
use Rattle.npm_lock_reports.proofs.left.leave_out_excepted.Given as goal

abbrev pub invariant-loop-one : goal.invariant-loop-one
invariant-loop-one l = map found_value l.left.items ++ left_in (exceptions_value l.exceptions) (map found_value l.one-iterator.rest.items)
    ≡ left_in (exceptions_value l.exceptions) (map found_value l.initial.one-iterator.rest.items)
