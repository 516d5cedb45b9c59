-- The index has the exceptions from the last one to here.
use Rattle.std.proofs.Common.{◌≡◌, ◌≤◌, ℕ, List, drop, length, map}
use Rattle.std.specs.List.{position_from}
use Rattle.npm_lock_reports.specs.AdvisoryExceptions.{exception_value}
use Rattle.npm_lock_reports.specs.Index.{place_at}
use Rattle.npm_lock_reports.specs.Places.{excepts}
use Rattle.npm_lock_reports.proofs.advisory_exceptions.index.ExceptionIndex.of.Given as goal

abbrev pub invariant-loop-left : goal.invariant-loop-left
invariant-loop-left l = (l.left ≤ length l.list) × ((name id : List ℕ) → place_at l.index name id
    ≡ position_from (excepts l.today name id) l.left (map exception_value (drop l.left l.list)))

abbrev pub decreases-loop-left : goal.decreases-loop-left
decreases-loop-left l = l.left
