-- The arguments of a bump, as numbers and a text, and its result.
use Rattle.std.specs.Prelude.{◌≡◌, ◌≢◌, ◌⊎◌, ℕ, List, [], Option, Some, None}
use Rattle.node_semver_c.specs.Compared.{code_of_bump}
use Rattle.node_semver_c.specs.declared.status.TheConstants.{INVALID_BUMP, INVALID_IDENTIFIER, NO_IDENTIFIER}
use Rattle.node_semver_c.specs.declared.status.TheConstants.{NUMBER_TOO_LARGE, OK, OUT_OF_MEMORY, SAME_IDENTIFIER}
use Rattle.npm_semver.specs.Bump.{IsBumped}
use Rattle.semver_texts.specs.IdentifierText.{IsIdentifierText, identifier_of}
use Rattle.semver_texts.specs.IdentifierValue.{IdentifierValue}
use Rattle.semver_texts.specs.Version.{VersionValue}
use Rattle.npm_semver.specs.declared.bump.Bump.{Bump}
use Rattle.npm_semver.specs.declared.bump.BumpError.{BumpError}
use Rattle.npm_semver.specs.declared.bump.BumpError.TheVariants.{NoIdentifier, SameIdentifier}
use Rattle.npm_semver.specs.declared.bump.BumpError.TheVariants.{NumberTooLarge, OutOfMemory}
use Rattle.npm_semver.specs.declared.bump.IdentifierBase.{IdentifierBase}
use Rattle.npm_semver.specs.declared.bump.IdentifierBase.TheVariants.{Absent, One, Zero}

-- ---- the arguments

-- the code of a base: the number itself, and 2 for none
abbrev pub code_of_base : IdentifierBase → ℕ
code_of_base Zero = 0
code_of_base One = 1
code_of_base Absent = 2

-- no bump has this code, or no base has that one
abbrev pub IsUnknown : (bump base : ℕ) → Type 0
IsUnknown bump base = ((b : Bump) → code_of_bump b ≢ bump) ⊎ ((b : IdentifierBase) → code_of_base b ≢ base)

-- the identifier of a text: `beta`, the number 1 of `1`, and none of the empty text
abbrev pub IsIdentifierGiven : List ℕ → Option IdentifierValue → Type 0
IsIdentifierGiven text None = text ≡ []
IsIdentifierGiven text (Some identifier) = IsIdentifierText text × (identifier_of text ≡ identifier)

-- neither an identifier nor the empty text: `a b`, `beta.1`
abbrev pub IsNoIdentifier : List ℕ → Type 0
IsNoIdentifier text = (text ≢ []) × ¬ IsIdentifierText text

-- the version after the bump of this code, with the identifier of this text and the base of that code
pub record IsBumpedAs (bump : ℕ) (text : List ℕ) (base : ℕ) (v w : VersionValue) : Type 0 where
  pub by : Bump
  pub identifier : Option IdentifierValue
  pub start : IdentifierBase
  pub code : code_of_bump by ≡ bump
  pub start_code : code_of_base start ≡ base
  pub given : IsIdentifierGiven text identifier
  pub bumped : IsBumped by identifier start v w

-- ---- the result

-- the status of an error of `npm_semver::inc`
abbrev pub status_of : BumpError → ℕ
status_of NoIdentifier = NO_IDENTIFIER
status_of SameIdentifier = SAME_IDENTIFIER
status_of NumberTooLarge = NUMBER_TOO_LARGE
status_of OutOfMemory = OUT_OF_MEMORY

-- the status says why there is no bumped version
abbrev pub IsRefusal : ℕ → Type 0
IsRefusal status = (status ≡ NO_IDENTIFIER) ⊎ (status ≡ SAME_IDENTIFIER) ⊎ (status ≡ NUMBER_TOO_LARGE)

-- The handle has the bumped version. Or it is empty: there is no such version, and the status says why; a code is
-- unknown; the text is no identifier; or an allocation failed.
pub data IsBumpReported (bump : ℕ) (text : List ℕ) (base : ℕ) (v : VersionValue) (status : ℕ)
    (held : Option VersionValue) : Type 0 where
  bumped : (w : VersionValue) → IsBumpedAs bump text base v w → status ≡ OK → held ≡ Some w
      → IsBumpReported bump text base v status held
  refused : ¬ IsUnknown bump base → ¬ IsNoIdentifier text → ((w : VersionValue) → ¬ IsBumpedAs bump text base v w)
      → IsRefusal status → held ≡ None → IsBumpReported bump text base v status held
  unknown : IsUnknown bump base → status ≡ INVALID_BUMP → held ≡ None → IsBumpReported bump text base v status held
  no_identifier : ¬ IsUnknown bump base → IsNoIdentifier text → status ≡ INVALID_IDENTIFIER → held ≡ None
      → IsBumpReported bump text base v status held
  no_memory : status ≡ OUT_OF_MEMORY → held ≡ None → IsBumpReported bump text base v status held

-- ---- for the private functions

-- the handle has a version of which this holds; or it is empty, since there is none, or since an allocation failed
pub data IsRaised (Is : VersionValue → Type 0) (status : ℕ) (held : Option VersionValue) : Type 0 where
  raised : (w : VersionValue) → Is w → status ≡ OK → held ≡ Some w → IsRaised Is status held
  none : ((w : VersionValue) → ¬ Is w) → IsRefusal status → held ≡ None → IsRaised Is status held
  unmade : status ≡ OUT_OF_MEMORY → held ≡ None → IsRaised Is status held
