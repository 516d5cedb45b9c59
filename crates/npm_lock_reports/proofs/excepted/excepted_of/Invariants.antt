-- What is excepted so far, and of the packages that are left, is that of all.
use Rattle.std.proofs.Common.{◌≡◌, ◌++◌, drop, map}
use Rattle.npm_advisories.specs.Audit.{found_value}
use Rattle.npm_lock_reports.specs.Excepted.{excepted_in, excepted_value}
use Rattle.npm_lock_reports.specs.Exceptions.{exceptions_value}
use Rattle.npm_lock_reports.proofs.excepted.excepted_of.Given as goal

abbrev pub invariant-loop-one : goal.invariant-loop-one
invariant-loop-one l = map excepted_value l.list.items
    ++ excepted_in (exceptions_value l.exceptions) (map found_value (drop l.one-index l.found))
    ≡ excepted_in (exceptions_value l.exceptions) (map found_value l.found)
