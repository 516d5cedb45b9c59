-- What an advisory is known by in an error: its `id`, or else its `url`.
use Rattle.std.specs.Prelude.{ℕ, List, Option, codes, option_and_then, option_map}
use Rattle.std.specs.Option.{option_or}
use Rattle.serde_json.specs.Data.{Data}
use Rattle.serde_json.specs.Find.{as_number, as_str, as_u64, get}
use Rattle.npm_advisories.specs.Advisories.{text_of}
use Rattle.npm_advisories.specs.declared.id.AdvisoryId.{AdvisoryId}
use Rattle.npm_advisories.specs.declared.id.AdvisoryId.TheVariants.{Number, Text}

pub data IdValue : Type 0 where
  number : ℕ → IdValue
  text : List ℕ → IdValue

-- an `id`: 1104 in npm's form, `GHSA-1` in OSV's. A number below 0 or with a fraction is none
abbrev pub id_of : Data → Option IdValue
id_of value = option_or (option_map number (option_and_then as_u64 (as_number value))) (option_map text (as_str value))

abbrev pub known_id : (entry : Data) → Option IdValue
known_id entry = option_and_then id_of (get (codes "id") entry)

-- its `id`, or else its `url`, if that is a string
abbrev pub id_in : (entry : Data) → Option IdValue
id_in entry = option_or (known_id entry) (option_map text (text_of (codes "url") entry))

-- as a contract sees it
abbrev pub id_value : AdvisoryId → IdValue
id_value (Number n) = number n
id_value (Text t) = text t.now
