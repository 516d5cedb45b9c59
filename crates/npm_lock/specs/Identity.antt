-- Which package a lock file of version 1 has in a folder, its name and its version: npm's "package-lock.json", "dependencies", and
-- `shrinkwrap` of its `arborist`.
use Rattle.std.specs.Prelude.{◌==◌, ◌&&◌, ◌||◌, not, ℕ, List, Bool, false, if◌then◌else◌, Option, Some, None, bytes_eq, codes}
use Rattle.std.specs.Prelude.{length, nat_lt, option_and_then, option_map}
use Rattle.std.specs.Char.{is_ascii_lowercase}
use Rattle.std.specs.List.{before_first, list_all, position_or_len}
use Rattle.std.specs.Option.{option_map_or, option_or}
use Rattle.serde_json.specs.Data.{Data}
use Rattle.serde_json.specs.Find.{as_str, get}
use Rattle.npm_texts.specs.RangeText.{SpecValue, aliased_name, in_registry, is_colon, location, refused, spec_of}
use Rattle.npm_texts.specs.Truth.{has_true}
use Rattle.npm_lock.specs.Tarballs.{TarballValue, name_text, tarball_at}

-- the text of a spec that names a version of a registry
abbrev pub registry_text : SpecValue → Option (List ℕ)
registry_text (in_registry text) = Some text
registry_text location = None
registry_text refused = None

-- a member of a package that is a text
abbrev pub text_in : (key : List ℕ) → (entry : Data) → Option (List ℕ)
text_in key entry = option_and_then as_str (get key entry)

-- ---- what a package was asked for by

-- the schemes of URLs, files and repositories that npm knows
abbrev pub is_known_scheme : (scheme : List ℕ) → Bool
is_known_scheme scheme = bytes_eq scheme (codes "http") || bytes_eq scheme (codes "https") || bytes_eq scheme (codes "file")
    || bytes_eq scheme (codes "git") || bytes_eq scheme (codes "ssh") || bytes_eq scheme (codes "bitbucket")
    || bytes_eq scheme (codes "gist") || bytes_eq scheme (codes "github") || bytes_eq scheme (codes "gitlab")
    || bytes_eq scheme (codes "sourcehut")

-- two small letters or more that are no such scheme. One letter is a disk of Windows
abbrev pub is_unknown_scheme : (scheme : List ℕ) → Bool
is_unknown_scheme scheme = nat_lt 1 (length scheme) && list_all is_ascii_lowercase scheme && not (is_known_scheme scheme)

-- a URL of a scheme that npm does not know, and refuses: `workspace:^`
abbrev pub is_unknown_url : (spec : List ℕ) → Bool
is_unknown_url spec = not (position_or_len is_colon spec == length spec) && is_unknown_scheme (before_first is_colon spec)

-- the spec leads to a URL, a repository, a file or a folder, and npm does not refuse it
abbrev pub is_elsewhere : (spec : List ℕ) → SpecValue → Bool
is_elsewhere spec location = not (is_unknown_url spec)
is_elsewhere spec (in_registry _) = false
is_elsewhere spec refused = false

-- `from` is what a package was asked for by
abbrev pub is_from_elsewhere : (entry : Data) → Bool
is_from_elsewhere entry = option_map_or (λ from. is_elsewhere from (spec_of from)) (text_in (codes "from") entry) false

-- `integrity` confirms the `version`, and so does a `from` that asks a registry, or that npm refuses
abbrev pub is_confirmed : (entry : Data) → Bool
is_confirmed entry = has_true (codes "integrity") entry || (has_true (codes "from") entry && not (is_from_elsewhere entry))

-- ---- the package

-- Where npm looks for a package that has no `version`, or one that is not confirmed: in `resolved`, or else where `from` says
abbrev pub origin_in : (entry : Data) → Option (List ℕ)
origin_in entry = if has_true (codes "version") entry && is_confirmed entry then None
    else text_in (if has_true (codes "resolved") entry then codes "resolved" else codes "from") entry

-- what says the version: `version`, or `from` if there is neither that nor `resolved`
abbrev pub said_in : (entry : Data) → Option (List ℕ)
said_in entry = text_in
    (if has_true (codes "version") entry || has_true (codes "resolved") entry then codes "version" else codes "from") entry

-- the package in the tarball that is installed in this folder: the tarball there, or that of a `version` which is an address
abbrev pub tarball_in : (folder : List ℕ) → (entry : Data) → Option TarballValue
tarball_in folder entry = option_or
    (option_and_then (λ address. tarball_at address folder) (origin_in entry))
    (option_and_then (λ address. tarball_at address folder) (text_in (codes "version") entry))

-- The version of a package: that of its tarball, or else `1.0.0` of `1.0.0` and `npm:a@1.0.0`. A repository, a folder, and a
-- tarball whose address does not say its version have none
unfoldable pub version_in : (folder : List ℕ) → (entry : Data) → Option (List ℕ)
version_in folder entry = option_or (option_map (λ tarball. tarball.version) (tarball_in folder entry))
    (option_and_then (λ said. registry_text (spec_of said)) (said_in entry))

-- the name of the package in its tarball, or else behind an alias: `a` of `npm:a@1.0.0`
unfoldable pub name_in : (folder : List ℕ) → (entry : Data) → Option (List ℕ)
name_in folder entry = option_or (option_map (λ tarball. name_text tarball.name) (tarball_in folder entry))
    (option_and_then aliased_name (said_in entry))
