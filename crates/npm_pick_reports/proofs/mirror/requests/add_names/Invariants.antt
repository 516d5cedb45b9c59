-- The names so far are added.
use Rattle.std.proofs.Common.{◌≡◌, ◌++◌, [], ◌∷◌, map, string_bytes, take}
use Rattle.std.specs.List.{flat_map}
use Rattle.npm_texts.specs.RegistrySpec.{RegistrySpecValue, registry_spec_value}
use Rattle.npm_pick_reports.proofs.mirror.requests.add_names.Given as goal

abbrev pub invariant-loop-request : goal.invariant-loop-request
invariant-loop-request l = map string_bytes l.names.items
    ≡ map string_bytes l.initial.names.items
    ++ flat_map (λ (r : RegistrySpecValue). r.name ∷ []) (map registry_spec_value (take l.request-index l.requests))
