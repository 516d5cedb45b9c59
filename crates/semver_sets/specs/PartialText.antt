-- How partials are written: npm's "X-Ranges" and "Range Grammar".
use Rattle.std.specs.Prelude.{◌≡◌, ℕ, true, List, [], ◌∷◌, ◌++◌, Option, Some, None, unwrap_or}
use Rattle.semver_texts.specs.Characters.{AreAll, dot, is_blank, is_partial_mark, is_x}
use Rattle.semver_texts.specs.IdentifierValue.{IdentifierValue}
use Rattle.semver_texts.specs.NumberText.{IsNumberText}
use Rattle.semver_texts.specs.Version.{VersionValue}
use Rattle.semver_texts.specs.VersionText.{HasThreeParts, IsMarked}
use Rattle.semver_sets.specs.Comparator.{Comparator}

-- A version of which components can be absent. A component is absent if it is an x or is not written: `1`, `1.x`,
-- `1.2.x-beta`
pub record Partial : Type 0 where
  pub major : Option ℕ
  pub minor : Option ℕ
  pub patch : Option ℕ
  pub pre_release : List IdentifierValue
  pub build : List IdentifierValue

-- components without extras
abbrev pub plain_partial : Option ℕ → Option ℕ → Option ℕ → Partial
plain_partial major minor patch = record { major = major; minor = minor; patch = patch; pre_release = []; build = [] }

-- a component: a number, or an x for an absent one
abbrev pub IsComponentText : List ℕ → Option ℕ → Type 0
IsComponentText text (Some number) = IsNumberText text number
IsComponentText text None = (b : ℕ) × (text ≡ b ∷ []) × (is_x b ≡ true)

-- two components with a dot between them: `1.2`, `1.x`
pub record HasTwoParts (text : List ℕ) (major minor : Option ℕ) : Type 0 where
  pub first : List ℕ
  pub second : List ℕ
  pub whole : text ≡ first ++ (dot ∷ second)
  pub major_text : IsComponentText first major
  pub minor_text : IsComponentText second minor

-- one, two or three components with dots between them. Only after the third, extras can follow
pub data IsUnmarkedPartial (p : Partial) (text : List ℕ) : Type 0 where
  -- `1`, `x`
  one : (major : Option ℕ) → p ≡ plain_partial major None None → IsComponentText text major → IsUnmarkedPartial p text
  -- `1.2`, `1.x`
  two : (major minor : Option ℕ) → p ≡ plain_partial major minor None → HasTwoParts text major minor
      → IsUnmarkedPartial p text
  -- `1.2.3-beta+5`, `1.2.x3`
  three : HasThreeParts IsComponentText text p.major p.minor p.patch p.pre_release p.build → IsUnmarkedPartial p text

-- an optional `v`, optional blanks, and components: `v 1.2.x`
abbrev pub IsPartialText : List ℕ → Partial → Type 0
IsPartialText text p = IsMarked is_partial_mark (IsUnmarkedPartial p) text

-- the version with the numbers of a partial, 0 for each absent one, and the partial's extras: `1.2.0-beta` for
-- `1.2.x-beta`
abbrev pub zeroed : Partial → VersionValue
zeroed p = record {
  major = unwrap_or p.major 0;
  minor = unwrap_or p.minor 0;
  patch = unwrap_or p.patch 0;
  pre_release = p.pre_release;
  build = p.build;
}

-- The comparator that a row of npm's tables gives for a partial, if it gives one. A row has the components of the partial,
-- and its version z, which has 0 for each absent component.
abbrev pub by_row : ((major minor patch : Option ℕ) (z : VersionValue) → Option Comparator) → Partial
    → Option Comparator
by_row row p = row p.major p.minor p.patch (zeroed p)

-- the operator of a word, optional blanks, and a partial: `>= v1.2`
pub record IsLed (lead text : List ℕ) (p : Partial) : Type 0 where
  pub blanks : List ℕ
  pub operand : List ℕ
  pub whole : text ≡ lead ++ (blanks ++ operand)
  pub blank : AreAll is_blank blanks
  pub read : IsPartialText operand p
