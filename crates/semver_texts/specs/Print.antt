-- How identifiers and versions are printed: SemVer 2.0.0, sections 2, 9 and 10.
use Rattle.std.specs.Prelude.{ℕ, List, [], ◌∷◌, ◌++◌, map}
use Rattle.std.specs.Fmt.{decimal}
use Rattle.std.specs.List.{join_with_byte}
use Rattle.semver_texts.specs.Characters.{dot, hyphen, plus}
use Rattle.semver_texts.specs.IdentifierValue.{IdentifierValue, numeric, alphanumeric}
use Rattle.semver_texts.specs.Version.{VersionValue}

-- a number's digits without leading zeros, or the text: `7` and `rc`
abbrev pub identifier_text : IdentifierValue → List ℕ
identifier_text (numeric n) = decimal n
identifier_text (alphanumeric t) = t

-- nothing if there are no identifiers, else the mark and the identifiers with dots between them: `-rc.7` and `+7`
abbrev pub marked_text : ℕ → List IdentifierValue → List ℕ
marked_text mark [] = []
marked_text mark (x ∷ xs) = mark ∷ join_with_byte dot (map identifier_text (x ∷ xs))

-- three numbers with dots between them, the prerelease after `-`, the build after `+`: `1.2.34-abc.213+2`
abbrev pub version_text : VersionValue → List ℕ
version_text v = decimal v.major ++ (dot ∷ decimal v.minor) ++ (dot ∷ decimal v.patch)
    ++ marked_text hyphen v.pre_release ++ marked_text plus v.build
