-- The grammar of a partial in npm's own reading: npm's "Range Grammar", and SemVer 2.0.0, sections 2, 9 and 10.
--
--     partial    = marks component [ "." component [ "." component [ prerelease ] [ build ] ] ]
--     marks      = any number of "v" and "=", none too
--     component  = "x" | "X" | "*" | number
--     prerelease = "-" identifiers;  in loose form also identifiers without "-"
--     build      = "+" identifiers
--
-- In strict form no number has a leading zero, also none of a prerelease; one of a build may have it. In loose form what
-- follows the marks is an `IsUnmarkedPartial`, with `HasThreeParts` and `IsExtrasText`, as in the texts of `Range::parse`.
use Rattle.std.specs.Prelude.{◌≡◌, ℕ, ◌==◌, ◌&&◌, Bool, true, false, not, List, [], ◌∷◌, ◌++◌}
use Rattle.std.specs.List.{list_all}
use Rattle.semver_texts.specs.Characters.{AreAll, digit_zero, hyphen, is_digit}
use Rattle.semver_texts.specs.IdentifierText.{parts_of}
use Rattle.semver_sets.specs.PartialText.{IsUnmarkedPartial, Partial, one, three, two}
use Rattle.npm_sets.specs.WordTexts.{is_mark}

-- a number with a leading zero: `01` and `00`, but not `0`, `10` or `01a`
abbrev pub is_padded_number : List ℕ → Bool
is_padded_number [] = false
is_padded_number (b ∷ []) = false
is_padded_number (b ∷ c ∷ rest) = (b == digit_zero) && list_all is_digit (c ∷ rest)

-- any other text
abbrev pub is_unpadded : List ℕ → Bool
is_unpadded text = not (is_padded_number text)

abbrev pub IsUnpadded : List ℕ → Type 0
IsUnpadded text = is_unpadded text ≡ true

-- nothing, or a hyphen and identifiers of which none is a number with a leading zero: `-beta.1`, but not `beta` or `-01`
abbrev pub IsStrictPrerelease : List ℕ → Type 0
IsStrictPrerelease [] = Unit {0}
IsStrictPrerelease (b ∷ list) = (b ≡ hyphen) × (list_all is_unpadded (parts_of list) ≡ true)

-- strict form, of one, two or three components
abbrev pub IsStrict : (p : Partial) (text : List ℕ) → IsUnmarkedPartial p text → Type 0
IsStrict p text (one major is component) = IsUnpadded text
IsStrict p text (two major minor is parts) = IsUnpadded parts.first × IsUnpadded parts.second
IsStrict p text (three parts) =
    IsUnpadded parts.first × IsUnpadded parts.second × IsUnpadded parts.third × IsStrictPrerelease parts.extras_text.prefix

-- marks, and one to three components: `v1.2`, `=1.2.3-beta.1+5`, and in loose form `01.2.3beta`
pub record IsNpmPartialText (loose : Bool) (text : List ℕ) (p : Partial) : Type 0 where
  pub marks : List ℕ
  pub unmarked : List ℕ
  pub whole : text ≡ marks ++ unmarked
  pub all : AreAll is_mark marks
  pub components : IsUnmarkedPartial p unmarked
  pub strict : loose ≡ false → IsStrict p unmarked components
