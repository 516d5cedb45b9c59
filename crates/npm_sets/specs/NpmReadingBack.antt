-- Which prints of ranges npm's own reading reads back as an equal range. So a file can store a range as its print.
use Rattle.std.specs.Prelude.{◌≡◌, ◌≤◌, ℕ, Bool, false, List, length}
use Rattle.std.specs.List.{AllByRecursion}
use Rattle.semver_cuts.specs.declared.cut.Cut.{Cut}
use Rattle.semver_cuts.specs.declared.cut.Cut.TheVariants.{Start, Before, After, End}
use Rattle.semver_cuts.specs.Ends.{Ends}
use Rattle.semver_texts.specs.IdentifierValue.{IdentifierValue, alphanumeric, numeric}
use Rattle.semver_texts.specs.Print.{version_text}
use Rattle.semver_texts.specs.ReadingBack.{HasTextNumbers}
use Rattle.semver_texts.specs.Version.{VersionValue}
use Rattle.semver_texts.specs.declared.TheConstants.{MAX_LENGTH}
use Rattle.semver_sets.specs.RangeEquality.{AreSameCuts}
use Rattle.semver_sets.specs.RangePrint.{range_text}
use Rattle.npm_sets.specs.NpmMeaning.{AreNpmSets, IsNpmRefused}
use Rattle.npm_sets.specs.PartialGrammar.{IsUnpadded}
use Rattle.npm_sets.specs.Spaces.{with_plain_spaces}
use Rattle.npm_sets.specs.declared.options.NpmOptions.{NpmOptions}

-- strict form reads the print of the identifier. It refuses a number with a leading zero: such a text can be an
-- identifier if the number is too large to be one, as `0100000000000000000000`
abbrev pub IsStrictIdentifier : IdentifierValue → Type 0
IsStrictIdentifier (numeric number) = Unit {0}
IsStrictIdentifier (alphanumeric text) = IsUnpadded text

-- npm's reading reads the print of the version as a partial: no number is above 9007199254740991, and the print has at
-- most 256 bytes
pub record HasNpmPrint (loose : Bool) (v : VersionValue) : Type 0 where
  pub numbers : HasTextNumbers v
  pub short : length (version_text v) ≤ MAX_LENGTH
  pub strict : loose ≡ false → AllByRecursion IsStrictIdentifier v.pre_release

-- a cut at such a version, or the start, or the end
abbrev pub IsNpmPrintCut : Bool → Cut VersionValue → Type 0
IsNpmPrintCut loose Start = Unit {0}
IsNpmPrintCut loose (Before v) = HasNpmPrint loose v
IsNpmPrintCut loose (After v) = HasNpmPrint loose v
IsNpmPrintCut loose End = Unit {0}

-- a set with such ends: `>=1.2.3 <2.0.0-0`, `*`
pub record IsNpmPrintSet (loose : Bool) (set : Ends VersionValue) : Type 0 where
  pub lower : IsNpmPrintCut loose set.lower
  pub upper : IsNpmPrintCut loose set.upper

-- the text is not refused, and each list of sets that npm's reading gives it is equal to these
pub record IsNpmReadAsEqual (options : NpmOptions) (text : List ℕ) (sets : List (Ends VersionValue)) : Type 0 where
  pub accepted : ¬ IsNpmRefused options (with_plain_spaces text)
  pub equal : (others : List (Ends VersionValue)) → AreNpmSets options (with_plain_spaces text) others
      → AreSameCuts others sets

-- the print of a range of such sets is read as an equal range
abbrev pub NpmReadsBack : NpmOptions → List (Ends VersionValue) → Type 0
NpmReadsBack options sets =
    AllByRecursion (IsNpmPrintSet options.loose) sets → IsNpmReadAsEqual options (range_text sets) sets
