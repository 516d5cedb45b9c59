-- What a map of members has for a name is what the object has.
use Rattle.std.proofs.Common.{◌≡◌, ℕ, List, Option, String, Global, nat_cmp, option_map, string_bytes, sym}
use Rattle.std.specs.BTreeMap.{is_at}
use Rattle.std.specs.Cmp.Lexicographic.{slice_cmp}
use Rattle.std.specs.Map.{lookup}
use Rattle.serde_json.specs.Find.{get_member}
use Rattle.serde_json.specs.View.{members_view, view}
use Rattle.serde_json.specs.declared.value.Value.{Value}
use Rattle.serde_json.proofs.Views.{view-lookup}

pub found_in : (entries : List (String Global × Value)) (name : List ℕ) (found : Option Value)
    → found ≡ lookup (is_at (λ k. slice_cmp nat_cmp name (string_bytes k))) entries
    → get_member name (members_view entries) ≡ option_map view found
found_in entries name found at = rw at (sym (view-lookup name entries))
