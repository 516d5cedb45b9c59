-- The version that a text is read as: npm's `valid` and `coerce`.
use Rattle.std.specs.Prelude.{◌≡◌, ◌==◌, ◌≤◌, ℕ, List, [], ◌∷◌, Bool, true, false, chars, encode_utf8_all}
use Rattle.std.specs.Prelude.{if◌then◌else◌, length}
use Rattle.npm_semver.specs.Coerce.{IsCoerced}
use Rattle.npm_semver.specs.CoerceWithPrerelease.{IsCoercedWithPrerelease}
use Rattle.npm_semver.specs.StrictVersionText.{IsStrictVersionText}
use Rattle.node_semver.specs.Versions.{MAX_LENGTH, VersionValue}
use Rattle.npm_texts.specs.WhiteSpace.{is_white, without_end, without_start}
use Rattle.semver_texts.specs.Characters.{letter_v}
use Rattle.semver_texts.specs.Version.{without_build}
use Rattle.semver_command.specs.declared.asked.Options.{Options}

-- the characters without a `v` before the others
abbrev pub without_mark : List ℕ → List ℕ
without_mark [] = []
without_mark (c ∷ cs) = if c == letter_v then cs else c ∷ cs

-- the text without white space at its ends, and without a `v` before the rest: `1.2.3` of ` v1.2.3 `
unfoldable pub bare : List ℕ → List ℕ
bare text = encode_utf8_all (without_mark (without_end is_white (without_start is_white (chars text))))

-- The text is this version: it has at most 256 characters, and without white space at its ends and a `v` it is a strict
-- version text.
pub record IsWritten (text : List ℕ) (v : VersionValue) : Type 0 where
  pub short : length (chars text) ≤ MAX_LENGTH
  pub read : IsStrictVersionText (bare text) v

-- the version that `coerce` finds in the text: without a prerelease, or with one if prereleases are included
abbrev pub IsFoundWith : (include_prerelease rtl : Bool) → List ℕ → VersionValue → Type 0
IsFoundWith false rtl text v = IsCoerced rtl text v
IsFoundWith true rtl text v = IsCoercedWithPrerelease rtl text v

abbrev pub IsFound : Options → List ℕ → VersionValue → Type 0
IsFound options text v = IsFoundWith options.include_prerelease options.rtl text v

-- The version that the text is read as, without its build. With `--coerce` it is what `coerce` finds, and the text
-- itself is read only if `coerce` finds nothing.
pub data IsRead (options : Options) (text : List ℕ) : VersionValue → Type 0 where
  found : (v : VersionValue) → options.coerce ≡ true → IsFound options text v
      → IsRead options text (without_build v)
  unfound : (v : VersionValue) → options.coerce ≡ true → ((w : VersionValue) → ¬ IsFound options text w)
      → IsWritten text v → IsRead options text (without_build v)
  written : (v : VersionValue) → options.coerce ≡ false → IsWritten text v → IsRead options text (without_build v)
