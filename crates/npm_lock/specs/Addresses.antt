-- What the address of a package says: how it is asked, the name in the path of a registry, and the name of its file. This is stricter than
-- `Tarballs`, which reads what npm reads: the query is left out, and a registry may write the scope before the file too.
--
--     https://r/@s/a/-/a-1.0.0.tgz     https://r/@s/a/-/@s/a-1.0.0.tgz     ../s-a-1.0.0.tgz
use Rattle.std.specs.Prelude.{◌==◌, ◌||◌, ◌&&◌, not, ℕ, List, [], ◌∷◌, Bool, true, false, if◌then◌else◌, Option, Some, None}
use Rattle.std.specs.Prelude.{bytes_eq, codes, is_some, length, map, nat_eq, option_and_then, option_map, slice_index, unwrap_or}
use Rattle.std.specs.Char.{is_ascii_digit, to_ascii_lowercase}
use Rattle.std.specs.List.{before_first, position_or_len, starts_with}
use Rattle.std.specs.Option.{option_map_or, option_or}
use Rattle.npm_texts.specs.SpecGrammar.{is_colon}
use Rattle.npm_texts.specs.Texts.{rest_after}
use Rattle.npm_lock.specs.Tarballs.{NameValue, before_query, before_slashes, front_of, name_at_end, parts_at_slash}

-- ---- how it is asked

abbrev pub has_colon : (address : List ℕ) → Bool
has_colon address = not (position_or_len is_colon address == length address)

-- the address has this scheme, with letters of either case: `http` of `HTTP://r/a`
abbrev pub has_scheme : (scheme address : List ℕ) → Bool
has_scheme scheme address = has_colon address
    && bytes_eq (map to_ascii_lowercase (before_first is_colon address)) (map to_ascii_lowercase scheme)

-- the address is asked over a network: it has a scheme, or a host before `:`, and is no `file:`
abbrev pub is_remote : (address : List ℕ) → Bool
is_remote address = has_colon address && not (has_scheme (codes "file") address)

-- npm downloads a tarball
abbrev pub is_download : (address : List ℕ) → Bool
is_download address = has_scheme (codes "https") address || has_scheme (codes "http") address

-- nothing is encrypted
abbrev pub is_insecure : (address : List ℕ) → Bool
is_insecure address =
    has_scheme (codes "http") address || has_scheme (codes "git") address || has_scheme (codes "git+http") address

-- the path begins with what leads up, or ends there, or may do so: `..`, `\`, and a dot that is escaped
abbrev pub begins_up : (path : List ℕ) → Bool
begins_up path = starts_with nat_eq path (codes "..") || starts_with nat_eq path (codes "\\")
    || starts_with nat_eq path (codes "%2e") || starts_with nat_eq path (codes "%2E")

-- it does so anywhere
abbrev pub leads_up : (path : List ℕ) → Bool
leads_up [] = false
leads_up (b ∷ path) = begins_up (b ∷ path) || leads_up path

-- what comes after the address of a registry and a `/`
abbrev pub path_below : (address registry : List ℕ) → Option (List ℕ)
path_below address registry = option_and_then (rest_after (codes "/")) (rest_after (before_slashes registry) address)

-- The address is below that of a registry: `https://r/npm/a` is below `https://r/npm` and `https://r/npm/`. Not so `https://r/npm2/a`,
-- `https://r.example/npm/a` and `https://r/npm/../a`.
abbrev pub is_below : (address registry : List ℕ) → Bool
is_below address registry = option_map_or (λ path. not (leads_up path)) (path_below address registry) false

-- ---- names in it

-- the scope of a name without its `@`, which may be escaped: `s` of `@s/a`
abbrev pub scope_of : NameValue → Option (List ℕ)
scope_of name = option_or (rest_after (codes "@") name.scope) (rest_after (codes "%40") name.scope)

abbrev pub are_same_scopes : (scope other : Option (List ℕ)) → Bool
are_same_scopes None None = true
are_same_scopes (Some scope) (Some other) = bytes_eq scope other
are_same_scopes (Some scope) None = false
are_same_scopes None (Some other) = false

abbrev pub is_same_name : (name other : NameValue) → Bool
is_same_name name other = bytes_eq name.project other.project && are_same_scopes (scope_of name) (scope_of other)

-- the path of an address: what comes before its query, without slashes at its end
abbrev pub path_of : (address : List ℕ) → List ℕ
path_of address = before_slashes (before_query address)

-- the path of a package in a registry, whose files are in this folder with the scope before them: `@s/a` of `@s/a/-/@s`
abbrev pub above_scope : (folder : List ℕ) → Option (List ℕ)
above_scope folder =
    if starts_with nat_eq (parts_at_slash folder).1 (codes "@") then front_of (codes "/-") (parts_at_slash folder).0 else None

-- the same with or without the scope: `@s/a` of `@s/a/-` too
abbrev pub package_path : (folder : List ℕ) → Option (List ℕ)
package_path folder = option_or (front_of (codes "/-") folder) (above_scope folder)

-- the name that an address in a registry says
abbrev pub registry_name : (address : List ℕ) → Option NameValue
registry_name address = option_map name_at_end (package_path (parts_at_slash (path_of address)).0)

-- the name of an archive without its ending: `a-1.0.0` of `a-1.0.0.tgz`
abbrev pub archive_stem : (file : List ℕ) → Option (List ℕ)
archive_stem file = option_or (front_of (codes ".tgz") file)
    (option_or (front_of (codes ".tar.gz") file) (front_of (codes ".tar") file))

-- the same of the file that an address ends with
abbrev pub stem_in : (address : List ℕ) → Option (List ℕ)
stem_in address = archive_stem (unwrap_or (rest_after (codes "file:") (parts_at_slash (path_of address)).1)
    (parts_at_slash (path_of address)).1)

-- ---- versions in it

-- what comes after a name and `-`: `1.0.0` of `a-1.0.0`
abbrev pub after_name : (name stem : List ℕ) → Option (List ℕ)
after_name name stem = option_and_then (rest_after (codes "-")) (rest_after name stem)

-- what a file says of the version, if it has the name of the package: `1.0.0` of `a-1.0.0`, and of `s-a-1.0.0`, which `npm pack` writes
-- for `@s/a`
abbrev pub version_in_file : (name : NameValue) → (stem : List ℕ) → Option (List ℕ)
version_in_file name stem = option_or (after_name name.project stem)
    (option_and_then (λ scope. option_and_then (after_name name.project) (after_name scope stem)) (scope_of name))

-- the name of a file is that of the package, with or without a version
abbrev pub is_file_of : (name : NameValue) → (stem : List ℕ) → Bool
is_file_of name stem = bytes_eq stem name.project || is_some (version_in_file name stem)

-- before the version in the name of a file: `a-1.0.0`
abbrev pub hyphen : ℕ
hyphen = 45

-- before the build of a version: `1.0.0+b`
abbrev pub plus : ℕ
plus = 43

-- a `-` and a digit, as before a version: `a-1`
abbrev pub has_number : (is_after_hyphen : Bool) → (stem : List ℕ) → Bool
has_number is_after_hyphen [] = false
has_number is_after_hyphen (b ∷ stem) = (is_after_hyphen && is_ascii_digit b) || has_number (b == hyphen) stem

-- a version without `v` at its start
abbrev pub without_v : (version : List ℕ) → List ℕ
without_v version = unwrap_or (rest_after (codes "v") version) version

abbrev pub begins_with_digit : (text : List ℕ) → Bool
begins_with_digit text = is_ascii_digit (slice_index (without_v text) 0)

-- a version without its build: `1.0.0` of `1.0.0+b`
abbrev pub without_build : (version : List ℕ) → List ℕ
without_build version = before_first (λ b. b == plus) (without_v version)

abbrev pub is_same_version : (version other : List ℕ) → Bool
is_same_version version other = bytes_eq (without_build version) (without_build other)
