use Rattle.std.proofs.Common.{◌≡◌, take}
use Rattle.std.specs.List.{flat_map}
use Rattle.semver_keys.specs.Private.Opened.{parts_of}
use Rattle.semver_keys.proofs.interval.opened.opened_parts.Given as goal

abbrev pub invariant-sets : goal.invariant-sets
invariant-sets l = l.parts.items ≡ flat_map parts_of (take l.set-index l.sets)
