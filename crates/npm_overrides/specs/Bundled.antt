-- Which dependencies are in the archive of a package: npm's "package.json", "bundleDependencies".
use Rattle.std.specs.Prelude.{◌&&◌, ◌||◌, ℕ, List, Bool, false, bytes_eq, codes, is_some, option_and_then}
use Rattle.std.specs.Option.{option_map_or}
use Rattle.serde_json.specs.Data.{Data, Items, array, boolean, item, no_items, null, number, object, string}
use Rattle.serde_json.specs.Find.{as_str, get}

-- a list of names has this one
abbrev pub has_name : (name : List ℕ) → Items → Bool
has_name name no_items = false
has_name name (item one others) = option_map_or (λ text. bytes_eq text name) (as_str one) false || has_name name others

-- "Bundle all dependencies with `true`": those in `dependencies`; or the names of a list; or one name
abbrev pub is_bundled_by : (manifest : Data) → (name : List ℕ) → (bundle : Data) → Bool
is_bundled_by manifest name null = false
is_bundled_by manifest name (boolean all) = all && is_some (option_and_then (get name) (get (codes "dependencies") manifest))
is_bundled_by manifest name (number n) = false
is_bundled_by manifest name (string one) = bytes_eq one name
is_bundled_by manifest name (array names) = has_name name names
is_bundled_by manifest name (object others) = false

abbrev pub is_bundled : (manifest : Data) → (name : List ℕ) → Bool
is_bundled manifest name = option_map_or (is_bundled_by manifest name) (get (codes "bundleDependencies") manifest) false
