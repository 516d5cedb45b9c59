-- Advisories in OSV's form: the fields of the OSV schema.
use Rattle.std.specs.Prelude.{ℕ, List, [], ◌∷◌, ◌++◌, ◌||◌, Bool, false, if◌then◌else◌, Option, Some, None, bytes_eq, codes}
use Rattle.std.specs.Prelude.{not, option_and_then, option_map, unwrap_or}
use Rattle.std.specs.Option.{option_map_or}
use Rattle.serde_json.specs.Data.{Data, Items, item, no_items, null}
use Rattle.serde_json.specs.Find.{as_array, as_str, at, get}
use Rattle.npm_advisories.specs.Advisories.{AboutValue, Affected, AdvisoryValue, in_osv, severity_of_option, text_of}
use Rattle.npm_advisories.specs.OsvRanges.{EventValue, fixed, introduced, last_affected, limit}
use Rattle.npm_advisories.specs.Severities.{is_word}
use Rattle.npm_advisories.specs.Timestamps.{day_of, is_before}
use Rattle.toml_datetime.specs.declared.datetime.Date.{Date}

-- ---- what an advisory says of itself

-- the items of a member that is a list
abbrev pub items_at : (key : List ℕ) → (entry : Data) → Items
items_at key entry = unwrap_or (option_and_then as_array (get key entry)) no_items

-- `severity` of `database_specific`, where GitHub's database has a word; `Unknown` if none is there
abbrev pub osv_severity : (entry : Data) → Option (List ℕ)
osv_severity entry = option_and_then (text_of (codes "severity")) (get (codes "database_specific") entry)

-- `url` of the first of the `references`
abbrev pub osv_url : (entry : Data) → Option (List ℕ)
osv_url entry = option_and_then (text_of (codes "url")) (option_and_then (at 0) (get (codes "references") entry))

-- `id`, the severity, `summary`, the first `url`, and `aliases`
abbrev pub osv_about : (entry : Data) → AboutValue
osv_about entry = record {
  id = unwrap_or (get (codes "id") entry) null;
  severity = severity_of_option (osv_severity entry);
  title = text_of (codes "summary") entry;
  url = osv_url entry;
  aliases = items_at (codes "aliases") entry;
}

-- ---- one element of `affected`

-- The name, if the ecosystem is npm: `a` of `{"package": {"ecosystem": "npm", "name": "a"}}`. GitHub's service writes `NPM`
abbrev pub name_in : (named : Data) → Option (List ℕ)
name_in named = option_and_then
    (λ ecosystem. if is_word (codes "npm") ecosystem then text_of (codes "name") named else None)
    (text_of (codes "ecosystem") named)

abbrev pub npm_name : (one : Data) → Option (List ℕ)
npm_name one = option_and_then name_in (get (codes "package") one)

-- the only one of the four members of an event
abbrev pub only_one : (introduced fixed last_affected limit : Option Data) → Option EventValue
only_one (Some value) None None None = option_map introduced (as_str value)
only_one None (Some value) None None = option_map fixed (as_str value)
only_one None None (Some value) None = option_map last_affected (as_str value)
only_one None None None (Some value) = option_map limit (as_str value)
only_one _ _ _ _ = None

-- `fixed` 2.0.0 of `{"fixed": "2.0.0"}`
abbrev pub event_of : (event : Data) → Option EventValue
event_of event = only_one (get (codes "introduced") event) (get (codes "fixed") event)
    (get (codes "last_affected") event) (get (codes "limit") event)

abbrev pub events_of : Items → List EventValue
events_of no_items = []
events_of (item event others) = option_map_or (λ e. e ∷ []) (event_of event) [] ++ events_of others

-- a type of ranges: `SEMVER`, or `ECOSYSTEM`, which is the order of npm and so the same; `GIT` has commits
abbrev pub is_ordered : (type : List ℕ) → Bool
is_ordered type = bytes_eq type (codes "SEMVER") || bytes_eq type (codes "ECOSYSTEM")

-- the range has versions
abbrev pub has_versions : (range : Data) → Bool
has_versions range = option_map_or is_ordered (text_of (codes "type") range) false

-- the events of each range that has versions
abbrev pub ranges_of : Items → List (List EventValue)
ranges_of no_items = []
ranges_of (item range others) =
    (if has_versions range then events_of (items_at (codes "events") range) ∷ [] else []) ++ ranges_of others

-- the strings of a list
abbrev pub texts_of : Items → List (List ℕ)
texts_of no_items = []
texts_of (item value others) = option_map_or (λ text. text ∷ []) (as_str value) [] ++ texts_of others

-- its `ranges` and its `versions`
abbrev pub osv_affected : (one : Data) → Affected
osv_affected one = in_osv (ranges_of (items_at (codes "ranges") one)) (texts_of (items_at (codes "versions") one))

-- ---- all of a file

-- An advisory that was taken back, today or earlier: `withdrawn` says when. One that is taken back on a later day counts until then
abbrev pub is_withdrawn : (today : Date) → (entry : Data) → Bool
is_withdrawn today entry =
    option_map_or (λ day. not (is_before today day)) (option_and_then day_of (text_of (codes "withdrawn") entry)) false

-- one for each element of `affected` about a package of npm
abbrev pub affected_list : (about : AboutValue) → Items → List AdvisoryValue
affected_list about no_items = []
affected_list about (item one others) = option_map_or
    (λ name. record { name = name; about = about; affected = osv_affected one } ∷ []) (npm_name one) []
    ++ affected_list about others

-- those of an OSV object; none if it is withdrawn
abbrev pub osv_advisories : (today : Date) → (entry : Data) → List AdvisoryValue
osv_advisories today entry =
    if is_withdrawn today entry then [] else affected_list (osv_about entry) (items_at (codes "affected") entry)

-- those of a list of OSV objects
abbrev pub osv_list : (today : Date) → Items → List AdvisoryValue
osv_list today no_items = []
osv_list today (item entry others) = osv_advisories today entry ++ osv_list today others
