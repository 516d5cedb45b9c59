-- What the address of a tarball says of the package in it. npm reads such addresses in lock files of version 1: `version-from-tgz` of
-- its `arborist`.
--
--     address  = registry | [folder] file
--     registry = scheme "/" host "/" [folder] name "/-/" file [("?" | "#") text]
--     scheme   = "http:/" | "https:/"
--     folder   = text "/" | "file:"
--     name     = [scope ("/" | "%2f")] project
--     file     = project "-" version ".tgz"
--
-- A registry writes the name before `/-/`, in the path of a URL: `https://r/@s/a/-/a-1.0.0.tgz` is `@s/a` of version 1.0.0. The file is
-- what the whole address ends with. Any other address says no name, and its file has to be one of the name that the package is
-- installed under: `https://r/a-1.0.0.tgz` of `@s/a`.
use Rattle.std.specs.Prelude.{◌==◌, ℕ, List, [], ◌∷◌, ◌++◌, if◌then◌else◌, Option, Some, None, codes, nat_eq}
use Rattle.std.specs.Prelude.{option_and_then, option_map, reverse, unwrap_or}
use Rattle.std.specs.List.{after_first, before_first, ends_with, starts_with}
use Rattle.std.specs.Option.{option_or}
use Rattle.std.specs.Path.{rsplit_once, slash}
use Rattle.npm_texts.specs.SpecGrammar.{is_slash}
use Rattle.npm_texts.specs.Texts.{rest_after, without_end}
use Rattle.npm_lock.specs.declared.tarball.Name.{Name}
use Rattle.npm_lock.specs.declared.tarball.Tarball.{Tarball}

-- ---- names

-- what comes before the last `/` of a path, and what comes after it. Nothing comes before it if there is none.
abbrev pub parts_at_slash : (path : List ℕ) → List ℕ × List ℕ
parts_at_slash path = unwrap_or (rsplit_once slash path) ([], path)

-- the name of a package: `@s` and `a` of `@s/a`. What comes before the `/` is a scope if it begins with `@`.
pub record NameValue : Type 0 where
  pub scope : List ℕ
  pub project : List ℕ

-- before the number of a byte in a URL: `%2f` is `/`
abbrev pub percent_sign : ℕ
percent_sign = 37

-- the two parts of `@s%2fa`
abbrev pub escaped_parts : (part : List ℕ) → Option (List ℕ × List ℕ)
escaped_parts part = option_and_then (λ parts. option_map (λ project. (parts.0, project))
    (option_or (rest_after (codes "2f") parts.1) (rest_after (codes "2F") parts.1))) (rsplit_once percent_sign part)

-- what comes before the last `/` or `%2f` of a path, and what comes after it
abbrev pub parts_at_end : (path : List ℕ) → List ℕ × List ℕ
parts_at_end path = unwrap_or (escaped_parts (parts_at_slash path).1) (parts_at_slash path)

-- the name at the end of a path: `@s/a` of `b/@s/a`
abbrev pub name_at_end : (path : List ℕ) → NameValue
name_at_end path = record { scope = (parts_at_end (parts_at_end path).0).1; project = (parts_at_end path).1 }

-- `@s/a`, or `a` if there is no scope
abbrev pub name_text : NameValue → List ℕ
name_text name =
    if starts_with nat_eq name.scope (codes "@") then name.scope ++ (codes "/" ++ name.project) else name.project

-- ---- tarballs

-- the package in a tarball. In doubt the text is no version, as `x-1` of `a-x-1.tgz`.
pub record TarballValue : Type 0 where
  pub name : NameValue
  pub version : List ℕ

-- the text before this end, if it ends so
abbrev pub front_of : (end text : List ℕ) → Option (List ℕ)
front_of end text = if ends_with nat_eq text end then Some (without_end end text) else None

-- the package of this name in the file `a-1.0.0.tgz`, of which this is `a-1.0.0`
abbrev pub with_name : (name : NameValue) → (stem : List ℕ) → Option TarballValue
with_name name stem = option_map (λ version. record { name = name; version = version })
    (option_and_then (rest_after (codes "-")) (rest_after name.project stem))

-- ---- addresses

-- the text without slashes at its start
abbrev pub after_slashes : List ℕ → List ℕ
after_slashes [] = []
after_slashes (b ∷ text) = if is_slash b then after_slashes text else b ∷ text

-- the text without slashes at its end
abbrev pub before_slashes : List ℕ → List ℕ
before_slashes text = reverse (after_slashes (reverse text))

-- the file that an address ends with
abbrev pub file_of : (address : List ℕ) → List ℕ
file_of address = (parts_at_slash (before_slashes address)).1

-- before the query of a URL
abbrev pub question_mark : ℕ
question_mark = 63

-- before the fragment of a URL
abbrev pub number_sign : ℕ
number_sign = 35

-- what comes before the `?` or the `#` of a URL
abbrev pub before_query : (url : List ℕ) → List ℕ
before_query url = before_first (λ b. b == question_mark) (before_first (λ b. b == number_sign) url)

-- the path of a URL, without the `/` that it begins with: `a/b` of `https://r/a/b?c#d`
abbrev pub url_path : (address : List ℕ) → Option (List ℕ)
url_path address = option_map (λ rest. after_first is_slash (before_query (after_slashes rest)))
    (option_or (rest_after (codes "https:/") address) (rest_after (codes "http:/") address))

-- the path of a package in a registry, of which this is the path of a file: `@s/a` of `@s/a/-/a-1.0.0.tgz`
abbrev pub above_file : (file path : List ℕ) → Option (List ℕ)
above_file file path = option_and_then (front_of (codes "/-/")) (front_of file path)

-- the package in this file, if the address is a registry's
abbrev pub in_registry : (address file stem : List ℕ) → Option TarballValue
in_registry address file stem =
    option_and_then (λ path. with_name (name_at_end path) stem) (option_and_then (above_file file) (url_path address))

-- the name of a file without `.tgz`
abbrev pub stem_of : (file : List ℕ) → Option (List ℕ)
stem_of file = option_map (λ stem. unwrap_or (rest_after (codes "file:") stem) stem) (front_of (codes ".tgz") file)

-- the package in the tarball with this address, which is installed under this name
abbrev pub tarball_at : (address installed : List ℕ) → Option TarballValue
tarball_at address installed = option_and_then
    (λ stem. option_or (in_registry address (file_of address) stem) (with_name (name_at_end installed) stem))
    (stem_of (file_of address))

-- ---- what a contract sees of them

abbrev pub name_value : Name → NameValue
name_value name = record { scope = name.scope.now; project = name.project.now }

abbrev pub tarball_value : Tarball → TarballValue
tarball_value tarball = record { name = name_value tarball.name; version = tarball.version.now }
