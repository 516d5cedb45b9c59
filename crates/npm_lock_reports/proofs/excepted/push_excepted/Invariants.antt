-- What is excepted so far, and of the advisories that are left, is that of all.
use Rattle.std.proofs.Common.{◌≡◌, ◌++◌, drop, map}
use Rattle.npm_advisories.specs.Audit.{found_value}
use Rattle.npm_advisories.specs.Advisories.{about_value}
use Rattle.npm_lock_reports.specs.Excepted.{excepted_among, excepted_value}
use Rattle.npm_lock_reports.specs.Exceptions.{exceptions_value}
use Rattle.npm_lock_reports.proofs.excepted.push_excepted.Given as goal

abbrev pub invariant-loop-about : goal.invariant-loop-about
invariant-loop-about l = map excepted_value l.list.items
    ++ excepted_among (exceptions_value l.exceptions.exceptions) (found_value l.one) (map about_value (drop l.about-index l.one.hits.items))
    ≡ map excepted_value l.initial.list.items
    ++ excepted_among (exceptions_value l.exceptions.exceptions) (found_value l.one) (map about_value l.one.hits.items)
