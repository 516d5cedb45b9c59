-- The packages so far are those of the versions so far.
use Rattle.std.proofs.Common.{◌≡◌, map, take}
use Rattle.std.specs.List.{flat_map}
use Rattle.npm_resolve.specs.Installed.{installed_value}
use Rattle.npm_resolve.specs.Answers.{chosen_value}
use Rattle.npm_resolve_reports.specs.Locks.{installed_by}
use Rattle.npm_resolve_reports.proofs.lock.all_installed.Given as goal

abbrev pub invariant-loop-one : goal.invariant-loop-one
invariant-loop-one l = map installed_value l.installed.items
    ≡ flat_map (installed_by l.documents) (map chosen_value (take l.one-index l.chosen))
