-- Which prints of ranges are read back as an equal range. So a file can store a range as its print.
use Rattle.std.specs.Prelude.{◌≡◌, ℕ, List}
use Rattle.std.specs.List.{AllByRecursion}
use Rattle.semver_cuts.specs.declared.cut.Cut.{Cut}
use Rattle.semver_cuts.specs.declared.cut.Cut.TheVariants.{Start, Before, After, End}
use Rattle.semver_cuts.specs.Ends.{Ends}
use Rattle.semver_sets.specs.Meaning.{IsRefused}
use Rattle.semver_sets.specs.Merging.{AreSetsOfText}
use Rattle.semver_sets.specs.RangeEquality.{AreSameCuts}
use Rattle.semver_sets.specs.RangePrint.{range_text}
use Rattle.semver_texts.specs.Version.{VersionValue}
use Rattle.semver_texts.specs.ReadingBack.{HasTextNumbers}

-- a cut at such a version, or the start, or the end
abbrev pub IsTextCut : Cut VersionValue → Type 0
IsTextCut Start = Unit {0}
IsTextCut (Before v) = HasTextNumbers v
IsTextCut (After v) = HasTextNumbers v
IsTextCut End = Unit {0}

-- the set contains all cuts and prints as `*`, a text that is read as `>=0.0.0`
abbrev pub IsUnbounded : Ends VersionValue → Type 0
IsUnbounded set = (set.lower ≡ Start) × (set.upper ≡ End)

-- a set with at least one end, and whose ends a text can write: `>=1.2.3`, `>=1.2.3 <2.0.0-0`
pub record IsPlainlyBounded (set : Ends VersionValue) : Type 0 where
  pub bounded : ¬ IsUnbounded set
  pub lower : IsTextCut set.lower
  pub upper : IsTextCut set.upper

-- the text is not refused, and each list of sets that it has is equal to these
pub record IsReadAsEqual (text : List ℕ) (sets : List (Ends VersionValue)) : Type 0 where
  pub accepted : ¬ IsRefused text
  pub equal : (others : List (Ends VersionValue)) → AreSetsOfText text others → AreSameCuts others sets

-- the print of a range of such sets is read as an equal range
abbrev pub RangeReadsBack : List (Ends VersionValue) → Type 0
RangeReadsBack sets = AllByRecursion IsPlainlyBounded sets → IsReadAsEqual (range_text sets) sets
