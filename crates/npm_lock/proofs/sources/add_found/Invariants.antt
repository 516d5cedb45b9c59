-- The findings so far, followed by those of the kinds that are left, are those of all kinds after the first ones.
use Rattle.std.proofs.Common.{◌≡◌, ◌++◌, drop, filter, map, string_bytes}
use Rattle.npm_lock.specs.Origins.{origin_value}
use Rattle.npm_lock.specs.Sources.{is_found, source_of, source_value}
use Rattle.npm_lock.proofs.sources.add_found.Given as goal

abbrev pub invariant-loop-kind : goal.invariant-loop-kind
invariant-loop-kind l = map source_value l.found.items ++ map (source_of (origin_value l.origin))
    (filter (is_found (map string_bytes l.registries) (origin_value l.origin)) (drop l.kind-index l.kinds))
    ≡ map source_value l.initial.found.items ++ map (source_of (origin_value l.origin))
    (filter (is_found (map string_bytes l.registries) (origin_value l.origin)) l.kinds)
