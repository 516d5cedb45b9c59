-- What the readers of a version compute: three numbers, and then a prerelease and a build. Lemmas connect it with
-- `IsVersionText`.
use Rattle.std.specs.Prelude.{◌≡◌, ◌==◌, ◌≤◌, if◌then◌else◌, ℕ, List, [], ◌∷◌, length, Result, Ok}
use Rattle.semver_texts.specs.declared.TheConstants.{MAX_LENGTH}
use Rattle.semver_texts.specs.declared.parse.fault.Fault.{Fault}
use Rattle.semver_texts.specs.Characters.{dot, is_blank, is_version_mark}
use Rattle.semver_texts.specs.IdentifierValue.{IdentifierValue}
use Rattle.semver_texts.specs.Reading.{◌>>=◌, Read, missing, read_extras, read_number, rest_of, skip_one}
use Rattle.semver_texts.specs.Version.{VersionValue}

-- the text without the dot that it begins with
unfoldable pub read_dot : List ℕ → Result (List ℕ) Fault
read_dot [] = missing []
read_dot (b ∷ rest) = if b == dot then Ok rest else missing (b ∷ rest)

-- the number after the dot that the text begins with
abbrev pub read_dotted : List ℕ → Read ℕ
read_dotted text = read_dot text >>= read_number

-- two more numbers after the first, each after a dot
abbrev pub read_minor_and_patch : ℕ × List ℕ → Read (ℕ × ℕ × ℕ)
read_minor_and_patch major =
    read_dot major.1 >>= λ second.
    read_number second >>= λ minor.
    read_dot minor.1 >>= λ third.
    read_number third >>= λ patch.
    Ok ((major.0, minor.0, patch.0), patch.1)

-- three numbers with dots between them
unfoldable pub read_triple : List ℕ → Read (ℕ × ℕ × ℕ)
read_triple text = read_number text >>= λ major. read_minor_and_patch major

-- an optional mark, optional blanks, and a triple
abbrev pub read_marked_triple : List ℕ → Read (ℕ × ℕ × ℕ)
read_marked_triple text = read_triple (rest_of is_blank (skip_one is_version_mark text))

-- a version of three numbers and extras
abbrev pub version_of : ℕ × ℕ × ℕ → List IdentifierValue × List IdentifierValue → VersionValue
version_of numbers extras = record {
  major = numbers.0;
  minor = numbers.1;
  patch = numbers.2;
  pre_release = extras.0;
  build = extras.1;
}

-- the extras after three numbers
abbrev pub read_extended : ℕ × ℕ × ℕ → List ℕ → Read VersionValue
read_extended numbers text =
    let extras = read_extras text in
    Ok (version_of numbers extras.0, extras.1)

-- three numbers and extras
unfoldable pub read_unmarked : List ℕ → Read VersionValue
read_unmarked text = read_triple text >>= λ numbers. read_extended numbers.0 numbers.1

-- an optional mark, optional blanks, and an unmarked version
unfoldable pub read_version : List ℕ → Read VersionValue
read_version text = read_unmarked (rest_of is_blank (skip_one is_version_mark text))

-- the triple that a text begins with after its mark and blanks, and the rest. The text is no longer than a version can
-- be
pub record IsBegun (text : List ℕ) (triple : ℕ × ℕ × ℕ) (rest : List ℕ) : Type 0 where
  pub short : length text ≤ MAX_LENGTH
  pub read : read_marked_triple text ≡ Ok (triple, rest)
