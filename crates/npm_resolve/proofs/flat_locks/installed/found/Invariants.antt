-- The last package of the name so far, or one of those that are left.
use Rattle.std.proofs.Common.{◌≡◌, drop, map, option_map}
use Rattle.npm_resolve.specs.Installed.{found, found_after, installed_value}
use Rattle.npm_resolve.proofs.flat_locks.installed.found.Given as goal

abbrev pub invariant-loop-one : goal.invariant-loop-one
invariant-loop-one l = found_after (option_map installed_value l.last) (map installed_value (drop l.one-index l.installed)) l.name
    ≡ found (map installed_value l.installed) l.name
