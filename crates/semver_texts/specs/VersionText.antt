-- Version texts: SemVer 2.0.0, sections 2, 9 and 10, in npm's loose form.
use Rattle.std.specs.Prelude.{◌≡◌, ℕ, ◌≤◌, Bool, List, ◌∷◌, ◌++◌, length}
use Rattle.semver_texts.specs.declared.TheConstants.{MAX_LENGTH}
use Rattle.semver_texts.specs.Characters.{AreAll, BeginsWith, BeginsWithNo, dot}
use Rattle.semver_texts.specs.Characters.{is_blank, is_digit, is_version_mark, mark_of}
use Rattle.semver_texts.specs.IdentifierText.{IsExtrasText}
use Rattle.semver_texts.specs.IdentifierValue.{IdentifierValue}
use Rattle.semver_texts.specs.NumberText.{IsNumberText}
use Rattle.semver_texts.specs.Version.{VersionValue}

-- Three parts with dots between them, and extras. If the third part has digits, it has all of them: `1.2.34-alpha+5`
pub record HasThreeParts {N : Type 0} (IsPart : List ℕ → N → Type 0) (text : List ℕ) (major minor patch : N)
    (pre_release build : List IdentifierValue) : Type 0 where
  pub first : List ℕ
  pub second : List ℕ
  pub third : List ℕ
  pub extras : List ℕ
  pub whole : text ≡ first ++ (dot ∷ (second ++ (dot ∷ (third ++ extras))))
  pub major_text : IsPart first major
  pub minor_text : IsPart second minor
  pub patch_text : IsPart third patch
  pub digits_end : BeginsWith is_digit third → BeginsWithNo is_digit extras
  pub extras_text : IsExtrasText extras pre_release build

-- an optional mark, optional blanks, and a text of this form: `v 1.2.3`
pub record IsMarked (is_mark : ℕ → Bool) (Is : List ℕ → Type 0) (text : List ℕ) : Type 0 where
  pub blanks : List ℕ
  pub unmarked : List ℕ
  pub whole : text ≡ mark_of is_mark text ++ (blanks ++ unmarked)
  pub blank : AreAll is_blank blanks
  pub read : Is unmarked

-- three numbers and extras: `1.2.3-alpha+5`
abbrev pub IsUnmarkedVersion : VersionValue → List ℕ → Type 0
IsUnmarkedVersion v text = HasThreeParts IsNumberText text v.major v.minor v.patch v.pre_release v.build

-- a text of at most 256 bytes with these five fields: `v1.2.3-alpha+5`
pub record IsVersionText (text : List ℕ) (v : VersionValue) : Type 0 where
  pub short : length text ≤ MAX_LENGTH
  pub fields : IsMarked is_version_mark (IsUnmarkedVersion v) text
