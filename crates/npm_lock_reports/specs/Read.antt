-- A file of advisories with no advisory in it.
use Rattle.std.specs.Prelude.{◌&&◌, Bool, false, true}
use Rattle.std.specs.Option.{option_map_or}
use Rattle.serde_json.specs.Data.{Data, Items, Members, item, member, no_items, no_members, object}
use Rattle.serde_json.specs.Find.{as_array}

abbrev pub has_nothing : Items → Bool
has_nothing no_items = true
has_nothing (item value others) = false

abbrev pub is_empty_list : (value : Data) → Bool
is_empty_list value = option_map_or has_nothing (as_array value) false

abbrev pub are_empty_lists : Members → Bool
are_empty_lists no_members = true
are_empty_lists (member name value others) = is_empty_list value && are_empty_lists others

-- an empty list, as in OSV's form, or an object of which each member is one, as in npm's: `[]`, `{}` and `{"lodash": []}`
abbrev pub has_no_advisory : (file : Data) → Bool
has_no_advisory (object members) = are_empty_lists members
has_no_advisory file = is_empty_list file
