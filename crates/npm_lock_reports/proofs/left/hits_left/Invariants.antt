-- The advisories that are left so far, and of those to come, are those of all.
use Rattle.std.proofs.Common.{◌≡◌, ◌++◌, drop, map}
use Rattle.npm_advisories.specs.Advisories.{about_value}
use Rattle.npm_lock_reports.specs.Exceptions.{exceptions_value, hits_among}
use Rattle.npm_lock_reports.proofs.left.hits_left.Given as goal

abbrev pub invariant-loop-about : goal.invariant-loop-about
invariant-loop-about l = map about_value l.left.items
    ++ hits_among (exceptions_value l.exceptions.exceptions) l.name (map about_value (drop l.about-index l.hits))
    ≡ hits_among (exceptions_value l.exceptions.exceptions) l.name (map about_value l.hits)
