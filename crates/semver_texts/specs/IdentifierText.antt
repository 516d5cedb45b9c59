-- Identifiers and lists of them, as they are written: SemVer 2.0.0, sections 9 and 10.
use Rattle.std.specs.Prelude.{◌≡◌, ◌⊎◌, ℕ, ◌^◌, ◌==◌, ◌&&◌, nat_lt, if◌then◌else◌, List, [], ◌∷◌, ◌++◌, map}
use Rattle.std.specs.List.{AllByRecursion, list_all, slice_split}
use Rattle.semver_texts.specs.Characters.{AreAll, BeginsWith, BeginsWithNo, hyphen}
use Rattle.semver_texts.specs.Characters.{is_digit, is_identifier_character, plus, dot}
use Rattle.semver_texts.specs.IdentifierValue.{IdentifierValue, alphanumeric, numeric}
use Rattle.semver_texts.specs.NumberText.{number_of}

-- Digits that write a number of 64 bits are that number, and every other text is itself: `001` is the number 1, and
-- `1a` is a text.
abbrev pub identifier_of : List ℕ → IdentifierValue
identifier_of text =
    if list_all is_digit text && nat_lt (number_of text) (2 ^ 64) then numeric (number_of text)
    else alphanumeric text

-- the texts between the dots: `alpha` and `1` of `alpha.1`
abbrev pub parts_of : List ℕ → List (List ℕ)
parts_of text = slice_split (λ b. b == dot) text

-- one or more identifier characters
abbrev pub IsIdentifierText : List ℕ → Type 0
IsIdentifierText text = BeginsWith is_identifier_character text × AreAll is_identifier_character text

-- identifiers with dots between them: `alpha.1`
pub record IsIdentifierList (text : List ℕ) (identifiers : List IdentifierValue) : Type 0 where
  pub parts : AllByRecursion IsIdentifierText (parts_of text)
  pub values : identifiers ≡ map identifier_of (parts_of text)

-- Nothing; or a list of identifiers after a hyphen. The hyphen can be left out if the list does not begin with one:
-- `-alpha.1`, `beta`, `--`
abbrev pub IsPrereleaseText : List ℕ → List IdentifierValue → Type 0
IsPrereleaseText text [] = text ≡ []
IsPrereleaseText text (i ∷ is) = (list : List ℕ)
    × ((text ≡ hyphen ∷ list) ⊎ ((text ≡ list) × BeginsWithNo (λ b. b == hyphen) list))
    × IsIdentifierList list (i ∷ is)

-- nothing, or `+` and a list of identifiers: `+build.5`
abbrev pub IsBuildText : List ℕ → List IdentifierValue → Type 0
IsBuildText text [] = text ≡ []
IsBuildText text (i ∷ is) = (list : List ℕ) × (text ≡ plus ∷ list) × IsIdentifierList list (i ∷ is)

-- the prerelease and the build that can follow a triple: `-alpha.1+build.5`
pub record IsExtrasText (text : List ℕ) (prerelease build : List IdentifierValue) : Type 0 where
  pub prefix : List ℕ
  pub rest : List ℕ
  pub whole : text ≡ prefix ++ rest
  pub first : IsPrereleaseText prefix prerelease
  pub second : IsBuildText rest build

-- the texts between the dots, and none for the empty text
abbrev pub texts_of : List ℕ → List (List ℕ)
texts_of [] = []
texts_of (b ∷ rest) = parts_of (b ∷ rest)

-- nothing, or identifiers with dots between them: ``, `alpha.1`
abbrev pub IsListed : List ℕ → Type 0
IsListed text = AllByRecursion IsIdentifierText (texts_of text)

-- the identifiers that such a text writes
abbrev pub identifiers_of : List ℕ → List IdentifierValue
identifiers_of text = map identifier_of (texts_of text)

-- the value of some identifier text: a number below 2^64, or a text that does not write such a number
abbrev pub IsReadIdentifier : IdentifierValue → Type 0
IsReadIdentifier identifier = (text : List ℕ) × IsIdentifierText text × (identifier_of text ≡ identifier)
