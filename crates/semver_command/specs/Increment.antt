-- The version after an increment: npm's `inc`.
use Rattle.std.specs.Prelude.{◌≡◌, ◌≢◌, ◌⊎◌, ℕ, List, [], ◌∷◌, Option, None, Some, length}
use Rattle.npm_semver.specs.Bump.{IsBumped}
use Rattle.npm_semver.specs.declared.bump.Bump.{Bump}
use Rattle.npm_semver.specs.declared.bump.IdentifierBase.{IdentifierBase}
use Rattle.node_semver.specs.Versions.{VersionValue}
use Rattle.semver_texts.specs.IdentifierText.{IsIdentifierText, identifier_of}
use Rattle.semver_texts.specs.IdentifierValue.{IdentifierValue}
use Rattle.semver_command.specs.declared.ending.Ending.{Ending}
use Rattle.semver_command.specs.declared.ending.Ending.TheVariants as Endings

-- the identifier of the text after `--preid`; the empty text means none, as in npm
pub data IsIdentifierGiven : (text : Option (List ℕ)) → Option IdentifierValue → Type 0 where
  absent : IsIdentifierGiven None None
  empty : IsIdentifierGiven (Some []) None
  given : (text : List ℕ) → IsIdentifierText text → IsIdentifierGiven (Some text) (Some (identifier_of text))

-- the text after `--preid` is no identifier
abbrev pub IsNoIdentifier : (text : Option (List ℕ)) → Type 0
IsNoIdentifier None = ⊥
IsNoIdentifier (Some text) = (text ≢ []) × (¬ IsIdentifierText text)

-- the version after the increment, if there is one
pub data IsIncremented (bump : Bump) (text : Option (List ℕ)) (base : IdentifierBase) (v : VersionValue)
    : Option VersionValue → Type 0 where
  raised : (identifier : Option IdentifierValue) (w : VersionValue) → IsIdentifierGiven text identifier
      → IsBumped bump identifier base v w → IsIncremented bump text base v (Some w)
  refused : (identifier : Option IdentifierValue) → IsIdentifierGiven text identifier
      → ((w : VersionValue) → ¬ IsBumped bump identifier base v w) → IsIncremented bump text base v None

-- An increment is made of a single version, without a range. If it can be made of no version, `null` is written.
pub data IsRaised (bump : Bump) (text : Option (List ℕ)) (base : IdentifierBase) (ranges : List (Option (List ℕ)))
    : (versions : List VersionValue) → Ending → Option VersionValue → Type 0 where
  incremented : (v : VersionValue) (outcome : Option VersionValue) → ranges ≡ [] → IsIncremented bump text base v outcome
      → IsRaised bump text base ranges (v ∷ []) Endings.Written outcome
  no_version : IsRaised bump text base ranges [] Endings.Nothing None
  not_alone : (versions : List VersionValue) → versions ≢ [] → (length versions ≢ 1) ⊎ (ranges ≢ [])
      → IsRaised bump text base ranges versions Endings.Misused None
