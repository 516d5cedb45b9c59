-- Where the document of a package is in a folder, and which names a package can have: npm's "package.json", "name".
use Rattle.std.specs.Prelude.{◌==◌, ◌&&◌, ℕ, List, ◌++◌, Bool, not, codes, length, nat_eq}
use Rattle.std.specs.List.{after_first, before_first, list_all, starts_with}
use Rattle.std.specs.Option.{option_map_or}
use Rattle.npm_texts.specs.RangeText.{is_slash, is_tag_byte}
use Rattle.npm_texts.specs.Texts.{rest_after}

-- a scope or a name: letters, digits and `-_.!~*'()`, and no dot in front. So it is neither `.` nor `..`, and has no
-- slash and no zero byte.
abbrev pub is_part : (text : List ℕ) → Bool
is_part text = not (length text == 0) && not (starts_with nat_eq text (codes ".")) && list_all is_tag_byte text

-- a scope, a slash and a name: `s/a`
abbrev pub is_scoped : (text : List ℕ) → Bool
is_scoped text = is_part (before_first is_slash text) && is_part (after_first is_slash text)

-- a name that a package can have: `a` and `@s/a`
abbrev pub is_package_name : (name : List ℕ) → Bool
is_package_name name = option_map_or is_scoped (rest_after (codes "@") name) (is_part name)

-- the path of a document in a folder; its end is `.json` or `/package.json`
abbrev pub path_of : (folder name end : List ℕ) → List ℕ
path_of folder name end = folder ++ (codes "/" ++ (name ++ end))
