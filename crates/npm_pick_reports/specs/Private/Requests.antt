-- The texts of the requests, as the program holds them.
use Rattle.std.specs.Prelude.{ℕ, List, [], ◌∷◌, bytes_eq, if◌then◌else◌}
use Rattle.std.specs.BTreeMap.{get_by}
use Rattle.std.specs.Cmp.Lexicographic.{slice_cmp}
use Rattle.std.specs.Option.{option_map_or}
use Rattle.std.specs.Ordering.{nat_cmp}
use denote.Ref.{Bor}
use Rattle.npm_pick_reports.specs.declared.mirror.requests.Groups.{Groups}
use Rattle.npm_texts.specs.declared.registry.RegistrySpec.{RegistrySpec}

-- the texts of a name
abbrev pub at_name : Groups → (name : List ℕ) → List (Bor (List ℕ))
at_name groups name = option_map_or (λ list. list.items) (get_by (λ k. slice_cmp nat_cmp name k.now) groups.by_name) []

-- the text of this request, if it has the name
abbrev pub named : (name : List ℕ) → RegistrySpec → List (Bor (List ℕ))
named name request = if bytes_eq request.name.now name then request.text ∷ [] else []
