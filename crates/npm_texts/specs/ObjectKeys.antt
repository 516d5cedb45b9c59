-- The names of the members of a JSON object.
use Rattle.std.specs.Prelude.{ℕ, List, [], ◌∷◌}
use Rattle.serde_json.specs.Data.{Members, member, no_members}

-- the keys of an object
abbrev pub keys_of : Members → List (List ℕ)
keys_of no_members = []
keys_of (member key value others) = key ∷ keys_of others
