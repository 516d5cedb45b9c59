-- The registries that are left decide.
use Rattle.std.proofs.Common.{◌≡◌, drop, map, string_bytes}
use Rattle.std.specs.List.{list_any}
use Rattle.npm_lock.specs.Addresses.{is_below}
use Rattle.npm_lock.proofs.sources.is_below_any.Given as goal

abbrev pub invariant-loop-registry : goal.invariant-loop-registry
invariant-loop-registry l = list_any (is_below l.address) (map string_bytes l.registries)
    ≡ list_any (is_below l.address) (map string_bytes (drop l.registry-index l.registries))
