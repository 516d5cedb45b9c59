-- What a group of dependencies adds to a map of names.
use Rattle.std.specs.Prelude.{◌&&◌, ℕ, List, Bool, false, not, Option, option_and_then, option_map}
use Rattle.serde_json.specs.Data.{Data, Members}
use Rattle.serde_json.specs.Find.{as_str, get_member}
use Rattle.npm_packages.specs.Asked.{AskedValue, is_optional_peer}

-- a name that must be found: no optional peer
abbrev pub is_needed_in : (asker : Data) → (is_needed is_peer : Bool) → (name : List ℕ) → Bool
is_needed_in asker is_needed is_peer name = is_needed && not (is_peer && is_optional_peer asker name)

-- the dependency on a name, if one of these members of a group has it
abbrev pub asked_among : (asker : Data) → (is_needed is_peer is_dev : Bool) → (name : List ℕ) → Members → Option
    AskedValue
asked_among asker is_needed is_peer is_dev name members = option_map
    (λ spec. record {
      spec = spec;
      is_needed = is_needed_in asker is_needed is_peer name;
      is_peer = is_peer;
      is_dev = is_dev;
      is_overridden = false;
    })
    (option_and_then as_str (get_member name members))
